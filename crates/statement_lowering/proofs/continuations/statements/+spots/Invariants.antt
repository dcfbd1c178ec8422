use Rattle.std.proofs.Common.{◌≡◌, ◌+◌, ◌*◌, true, drop, map, take, sum_by}
use Rattle.cob_tree.specs.Places.{arms_places, stmt_places, when_places}
use Rattle.control_flow_theory.specs.language.All.{all}
use Rattle.control_flow_theory.specs.language.OwnItems.{when_own}
use Rattle.statement_lowering.specs.Arms.{phrase_places}
use Rattle.statement_lowering.specs.continuations.Statements.{AddsArms, branch_arms}
use Rattle.statement_lowering.proofs.continuations_lemmas.Steps.{Along}
use Rattle.statement_lowering.proofs.continuations.statements.+spots.Given as goal

abbrev pub invariant-push_stmts-loop-stmt : goal.invariant-push_stmts-loop-stmt
invariant-push_stmts-loop-stmt l =
    (l.at ≡ l.stmt-index) × Along l.layout l.stmts l.onward l.stmt-index l.fn.spots.items l.spots.items

abbrev pub invariant-push_whens-loop-when : goal.invariant-push_whens-loop-when
invariant-push_whens-loop-when l =
    (all (map when_own (drop l.when-index l.whens)) ≡ true)
    × AddsArms l.layout (branch_arms (take l.when-index l.whens)) (sum_by when_places (take l.when-index l.whens)) l.onward l.fn.spots.items l.spots.items

-- Places fall, and among calls on the same statements these numbers.

abbrev pub decreases-push_stmts : goal.decreases-push_stmts
decreases-push_stmts l = 8 * sum_by stmt_places l.stmts.now + 1

abbrev pub decreases-push_within : goal.decreases-push_within
decreases-push_within l = 8 * stmt_places l.stmt.now

abbrev pub decreases-push_whens : goal.decreases-push_whens
decreases-push_whens l = 8 * sum_by when_places l.whens.now + 2

abbrev pub decreases-push_phrase : goal.decreases-push_phrase
decreases-push_phrase l = 8 * phrase_places l.phrase.now + 2

abbrev pub decreases-push_arms : goal.decreases-push_arms
decreases-push_arms l = 8 * arms_places l.arms.now + 3

abbrev pub decreases-push_turns : goal.decreases-push_turns
decreases-push_turns l = 8 * sum_by stmt_places l.turns.now + 2
