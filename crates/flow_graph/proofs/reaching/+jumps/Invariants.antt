use Rattle.std.proofs.Common.{◌≡◌, length}
use Rattle.pending_returns.specs.levels.Reach.{IsMarked}
use Rattle.control_flow_theory.specs.semantics.Graph.{end_of}
use Rattle.branch_tree.specs.Tree.{seen_tree, seen_trees}
use Rattle.flow_graph.proofs.JumpRows.{ArmsSoFar, arms_depth, end_depth}
use Rattle.flow_graph.proofs.reaching.+jumps.Given as goal

abbrev pub invariant-visit_arms-loop-arm : goal.invariant-visit_arms-loop-arm
invariant-visit_arms-loop-arm l = record {
  marked : IsMarked l.reach.places.items l.reach.marks.items;
  size : length l.reach.marks.items ≡ length l.fn.reach.marks.items;
  arms : ArmsSoFar l.arms l.arm-index l.fn.reach.places.items l.reach.places.items;
}

abbrev pub decreases-visit_tree : goal.decreases-visit_tree
decreases-visit_tree l = end_depth (end_of (seen_tree l.tree.now))

abbrev pub decreases-visit_arms : goal.decreases-visit_arms
decreases-visit_arms l = arms_depth (seen_trees l.arms.now)
