use Rattle.std.proofs.Common.{◌≡◌, ◌+◌, ◌-◌, ◌^◌, ◌<◌, min, drop}
use Rattle.control_flow_theory.specs.graph_rules.Shapes.{arms_leaves_to}
use Rattle.branch_tree.specs.Tree.{seen_trees}
use Rattle.branch_tree.proofs.jumps.+leaves.Given as goal

abbrev pub invariant-arms_leaves-loop-arm : goal.invariant-arms_leaves-loop-arm
invariant-arms_leaves-loop-arm l = record {
  so :
      min (l.count + arms_leaves_to l.label (seen_trees (drop l.arm-index l.arms))) (2 ^ 32 - 1)
      ≡ min (arms_leaves_to l.label (seen_trees l.arms)) (2 ^ 32 - 1);
  small : l.count < 2 ^ 32;
}
