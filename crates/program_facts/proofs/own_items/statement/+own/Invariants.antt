use Rattle.std.proofs.Common.{◌+◌, ◌*◌, drop}
use Rattle.control_flow_theory.specs.language.Control.{seen_stmts}
use Rattle.control_flow_theory.specs.language.Own.{OwnStmts}
use Rattle.program_facts.specs.own_items.Within.{OwnWhens}
use Rattle.program_facts.proofs.own_items.statement.+own.Given as goal

abbrev pub decreases-is_own_stmt : goal.decreases-is_own_stmt
decreases-is_own_stmt l = 8 * goal.size-is_own_stmt l + 1

abbrev pub decreases-is_own_stmts : goal.decreases-is_own_stmts
decreases-is_own_stmts l = 8 * goal.size-is_own_stmts l + 2

abbrev pub decreases-is_own_arm : goal.decreases-is_own_arm
decreases-is_own_arm l = 8 * goal.size-is_own_arm l + 3

abbrev pub decreases-is_own_both : goal.decreases-is_own_both
decreases-is_own_both l = 8 * goal.size-is_own_both l + 4

abbrev pub decreases-are_own_whens : goal.decreases-are_own_whens
decreases-are_own_whens l = 8 * goal.size-are_own_whens l + 5

abbrev pub invariant-are_own_whens-loop-when : goal.invariant-are_own_whens-loop-when
invariant-are_own_whens-loop-when l =
    OwnWhens (drop l.when-index l.when-items) → OwnWhens l.when-items

abbrev pub invariant-is_own_stmts-loop-stmt : goal.invariant-is_own_stmts-loop-stmt
invariant-is_own_stmts-loop-stmt l =
    OwnStmts (seen_stmts 0 (drop l.stmt-index l.stmt-items)) → OwnStmts (seen_stmts 0 l.stmt-items)
