use Rattle.std.proofs.Common.{◌≡◌, map, take}
use Rattle.branch_tree.specs.Tree.{seen_tree, trees_of}
use Rattle.control_flow_theory.specs.graph_rules.Shapes.{joined}
use Rattle.tree_rules.specs.Joining.{arms_may_join}
use Rattle.tree_rules.proofs.Arms.{changed_to}
use Rattle.tree_rules.proofs.joining.+join.Given as goal

abbrev pub invariant-join_arms-loop-at : goal.invariant-join_arms-loop-at
invariant-join_arms-loop-at l = record {
  same : map seen_tree l.arms ≡ changed_to joined l.at (map seen_tree l.fn.arms);
  joins : l.joins ≡ arms_may_join (trees_of (take l.at (map seen_tree l.fn.arms)));
  unvisited : goal.unvisited-join_arms-loop-at l;
}
