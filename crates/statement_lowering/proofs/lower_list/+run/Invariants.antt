use Rattle.std.proofs.Common.{◌≡◌, ◌+◌, ◌*◌, true, false, drop, map, sum_by}
use Rattle.cob_tree.specs.Places.{arms_places, stmt_places, when_places}
use Rattle.control_flow_theory.specs.language.All.{all}
use Rattle.control_flow_theory.specs.language.OwnItems.{stmts_own, when_own}
use Rattle.control_flow_theory.specs.semantics.Graph as graph
use Rattle.control_flow_theory.specs.lowering.Lower as lower
use Rattle.branch_tree.specs.Tree.{seen_body, seen_tree}
use Rattle.lowering_labels.specs.points.JumpTarget.{seen_target}
use Rattle.lowering_labels.specs.loop_nodes.Loops.{before}
use Rattle.statement_lowering.specs.LowerList.{Setting, flow_facts_by}
use Rattle.statement_lowering.specs.Arms.{phrase_places, when_arms}
use Rattle.statement_lowering.proofs.ArmRows.{trees_before}
use Rattle.statement_lowering.proofs.ListRows.{rest_built}
use Rattle.statement_lowering.proofs.lower_list.+run.Given as goal

abbrev pub invariant-lower_rest-loop-stmt : goal.invariant-lower_rest-loop-stmt
invariant-lower_rest-loop-stmt l =
    (l.at ≡ l.stmt-index)
    × (l.here + sum_by stmt_places (drop l.stmt-index l.stmts) ≡ l.place + sum_by stmt_places l.stmts)
    × (stmts_own (drop l.stmt-index l.stmts) ≡ true)
    × ((s : Setting l.context.telling.now l.context.leaving.now) (behind : graph.Tree) →
    before (seen_body l.fn.body.items) (rest_built (flow_facts_by l.context.telling.now) s.place_of s.last s.theirs (seen_target l.context.after.now) behind l.stmts l.place)
    ≡ before (seen_body l.body.items) (rest_built (flow_facts_by l.context.telling.now) s.place_of s.last s.theirs (seen_target l.context.after.now) behind (drop l.stmt-index l.stmts) l.here))

abbrev pub invariant-push_whens-loop-when : goal.invariant-push_whens-loop-when
invariant-push_whens-loop-when l =
    (l.here + sum_by when_places (drop l.when-index l.whens) ≡ l.place + 1 + sum_by when_places l.whens)
    × (all (map when_own (drop l.when-index l.whens)) ≡ true)
    × ((s : Setting l.context.telling.now l.context.leaving.now) →
    trees_before (map seen_tree l.arms) (lower.build_arms (flow_facts_by l.context.telling.now) s.place_of false (when_arms (drop l.when-index l.whens) l.other s.last) l.here s.theirs (seen_target l.context.after.now))
    ≡ lower.build_arms (flow_facts_by l.context.telling.now) s.place_of false (when_arms l.whens l.other s.last) (l.place + 1) s.theirs (seen_target l.context.after.now))

-- Places fall, and among calls on the same statements these numbers.

abbrev pub decreases-lower_rest : goal.decreases-lower_rest
decreases-lower_rest l = 16 * sum_by stmt_places l.stmts.now + 3

abbrev pub decreases-run_stmt : goal.decreases-run_stmt
decreases-run_stmt l = 16 * stmt_places l.stmt.now + 2

abbrev pub decreases-run_escape : goal.decreases-run_escape
decreases-run_escape l = 16 * stmt_places l.stmt.now + 1

abbrev pub decreases-run_if : goal.decreases-run_if
decreases-run_if l = 16 * (sum_by stmt_places l.met.now + sum_by stmt_places l.unmet.now) + 7

abbrev pub decreases-push_both : goal.decreases-push_both
decreases-push_both l = 16 * (sum_by stmt_places l.met.now + sum_by stmt_places l.unmet.now) + 6

abbrev pub decreases-run_evaluate : goal.decreases-run_evaluate
decreases-run_evaluate l = 16 * (sum_by when_places l.whens.now + phrase_places l.other.now) + 7

abbrev pub decreases-push_whens : goal.decreases-push_whens
decreases-push_whens l = 16 * (sum_by when_places l.whens.now + phrase_places l.other.now) + 6

abbrev pub decreases-run_read : goal.decreases-run_read
decreases-run_read l = 16 * arms_places l.phrases.now + 7

abbrev pub decreases-run_arith : goal.decreases-run_arith
decreases-run_arith l = 16 * arms_places l.phrases.now + 7

abbrev pub decreases-push_phrases : goal.decreases-push_phrases
decreases-push_phrases l = 16 * arms_places l.phrases.now + 6

abbrev pub decreases-run_loop : goal.decreases-run_loop
decreases-run_loop l = 16 * sum_by stmt_places l.turns.now + 8

abbrev pub decreases-run_once : goal.decreases-run_once
decreases-run_once l = 16 * sum_by stmt_places l.turns.now + 7

abbrev pub decreases-lower_rest_to : goal.decreases-lower_rest_to
decreases-lower_rest_to l = 16 * sum_by stmt_places l.stmts.now + 4

abbrev pub decreases-push_arm : goal.decreases-push_arm
decreases-push_arm l = 16 * sum_by stmt_places l.stmts.now + 5
