use Rattle.std.proofs.Common.{◌≡◌, ◌≤◌, length, drop}
use Rattle.control_flow_theory.specs.graph_rules.Shapes.{arms_targets}
use Rattle.branch_tree.specs.Tree.{seen_trees}
use Rattle.tree_rules.specs.Targets.{seen_targets}
use Rattle.tree_rules.proofs.targets.arms_targets.Given as goal

abbrev pub invariant-loop-left : goal.invariant-loop-left
invariant-loop-left l = record {
  within : l.left ≤ length l.arms;
  behind : seen_targets l.targets ≡ arms_targets (seen_trees (drop l.left l.arms));
}

abbrev pub decreases-loop-left : goal.decreases-loop-left
decreases-loop-left l = l.left
