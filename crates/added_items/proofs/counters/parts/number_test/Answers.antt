use Rattle.std.proofs.Common.{ap, sym, ◌∙◌}
use Rattle.control_flow_theory.specs.language.Control.{test_of}
use Rattle.control_flow_theory.specs.lowering.Renamed.{test_anew}
use Rattle.control_flow_theory.specs.main_theorem.Numbering.{place_among}
use Rattle.branch_tree.specs.Choosers.{seen_test}
use Rattle.added_items.proofs.counters_lemmas.AnewRows.{own-test}
use Rattle.added_items.proofs.counters.parts.number_test.Goals as goal

pub returns-then-is_own_test : goal.returns-then-is_own_test
returns-then-is_own_test c =
    let number = place_among c.args.cells.now in
    sym (own-test number (test_of c.in-Holds.cond) (c.is_own_test.ensures.own c.if-is_own_test.true))
    ∙ ap (λ t. test_anew number (seen_test t)) (sym c.in-Holds.is)
