use Rattle.std.proofs.Common.{◌≡◌, List, [], ◌∷◌, ◌++◌, OnOk, subst}
use Rattle.std.specs.Prelude.{codes}
use Rattle.cobol_print.specs.declared.units.unit.PrintUnit.{PrintUnit}
use Rattle.cobol_print.specs.units.Unit.{header}
use Rattle.cobol_print.specs.units.Division.{paragraphs_units}
use Rattle.cobol_print.proofs.units_lemmas.UnitLemmas.{added_on}
use Rattle.cobol_print.proofs.units.unit.Units.procedure.Goals as goal

pub returns : goal.returns
returns c =
    let first : List PrintUnit = header (codes "PROCEDURE") (codes "DIVISION") ∷ [] in
    added_on c.paragraphs.result c.args.self.now c.header.new.self c.paragraphs.new.self first
    (paragraphs_units c.args.program.now c.args.program.now.paragraphs) c.in_ok-header.ensures
    (subst (λ paragraphs. OnOk c.paragraphs.result (c.paragraphs.new.self ≡ c.header.new.self ++ paragraphs_units c.args.program.now paragraphs))
    c.as_slice.ensures c.paragraphs.ensures)
