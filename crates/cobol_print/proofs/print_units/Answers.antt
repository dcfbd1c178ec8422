use Rattle.std.proofs.Common.{◌≡◌, ◌++◌, [], drop, sym, ap, ◌∙◌, append-nil, arith}
use Rattle.std.proofs.lemmas.List.{drop_all}
use Rattle.cobol_print.specs.Layout.{units_bytes}
use Rattle.cobol_print.proofs.StreamLemmas.{lines-bytes}
use Rattle.cobol_print.proofs.print_units.Goals as goal

pub returns : goal.returns
returns c =
    let none : drop c.loop-unit.unit-index c.args.units.now ≡ [] = drop_all c.loop-unit.unit-index c.args.units.now (omega arith) in
    let all : c.loop-unit.layout.out ++ [] ≡ units_bytes c.args.units.now = ap (λ units. c.loop-unit.layout.out ++ units_bytes units) (sym none) ∙ c.loop-unit.invariant in
    sym (append-nil c.loop-unit.layout.out) ∙ all ∙ sym (lines-bytes c.args.units.now)
