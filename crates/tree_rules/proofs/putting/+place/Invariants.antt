use Rattle.std.proofs.Common.{◌≡◌, ◌+◌, ◌*◌, map, take}
use Rattle.control_flow_theory.specs.graph_rules.Shapes.{arms_leaves_to}
use Rattle.branch_tree.specs.Tree.{seen_tree, seen_trees}
use Rattle.tree_rules.proofs.putting.+place.Given as goal

abbrev pub decreases-place : goal.decreases-place
decreases-place l = 2 * goal.size-place l

abbrev pub decreases-place_one : goal.decreases-place_one
decreases-place_one l = 2 * goal.size-place_one l + 1

abbrev pub invariant-place_one-loop-at : goal.invariant-place_one-loop-at
invariant-place_one-loop-at l = record {
  same : map seen_tree l.arms ≡ map seen_tree l.fn.arms;
  by : seen_tree l.by ≡ seen_tree l.fn.by;
  none : arms_leaves_to l.label (seen_trees (take l.at l.fn.arms)) ≡ 0;
  unvisited : goal.unvisited-place_one-loop-at l;
}
