use Rattle.std.proofs.Common.{◌≡◌, drop}
use Rattle.control_flow_theory.specs.structuring.Targets.{trees_targets}
use Rattle.branch_tree.specs.Tree.{seen_trees}
use Rattle.region_rewrite.proofs.exit_rule.targets.+targets.Given as goal

abbrev pub invariant-add_arms-loop-arm : goal.invariant-add_arms-loop-arm
invariant-add_arms-loop-arm l =
    trees_targets l.label (seen_trees (drop l.arm-index l.arms)) l.found.items
    ≡ trees_targets l.label (seen_trees l.arms) l.fn.found.items
