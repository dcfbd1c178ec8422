use Rattle.std.proofs.Common.{◌≡◌, ◌≤◌, length, drop}
use Rattle.control_flow_theory.specs.graph_rules.Shapes.{other_arms_targets}
use Rattle.branch_tree.specs.Tree.{seen_trees}
use Rattle.tree_rules.specs.Targets.{seen_targets}
use Rattle.tree_rules.proofs.targets.+others.Given as goal

abbrev pub invariant-other_arms_targets-loop-left : goal.invariant-other_arms_targets-loop-left
invariant-other_arms_targets-loop-left l = record {
  within : l.left ≤ length l.arms;
  behind : seen_targets l.targets ≡ other_arms_targets l.label (seen_trees (drop l.left l.arms));
}

abbrev pub decreases-other_arms_targets-loop-left : goal.decreases-other_arms_targets-loop-left
decreases-other_arms_targets-loop-left l = l.left
