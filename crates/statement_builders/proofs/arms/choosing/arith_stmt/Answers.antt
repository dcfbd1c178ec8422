use Rattle.std.proofs.Common.{sym, ◌∙◌}
use Rattle.control_flow_theory.specs.language.Control.{seen_stmts}
use Rattle.statement_builders.proofs.arms_lemmas.ChoiceRows.{arith_row}
use Rattle.statement_builders.proofs.arms.choosing.arith_stmt.Goals as goal

pub returns-then-has_arm : goal.returns-then-has_arm
returns-then-has_arm c =
    arith_row c.args.calc c.args.into c.args.has_first (seen_stmts 0 c.args.first) (seen_stmts 0 c.args.second) c.in_ok-first.first c.in_ok-second.second
    c.in_ok-first.ensures c.in_ok-second.ensures (sym c.has_arm.ensures ∙ c.if-has_arm.true)
