use Rattle.std.proofs.Common.{take}
use Rattle.control_flow_theory.specs.graph_rules.Shapes.{arms_leaves_to}
use Rattle.branch_tree.specs.Tree.{seen_trees}
use Rattle.graph_rewriting.specs.Counting.{Counts}
use Rattle.graph_rewriting.proofs.counting.+counts.Given as goal

abbrev pub invariant-count_arms-loop-arm : goal.invariant-count_arms-loop-arm
invariant-count_arms-loop-arm l =
    Counts l.comes (λ label. arms_leaves_to label (seen_trees (take l.arm-index l.arms))) l.keys
    l.fn.slots l.slots
