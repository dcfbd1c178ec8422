use Rattle.std.proofs.Common.{◌≡◌, drop}
use Rattle.control_flow_theory.specs.semantics.Doing.{is_above}
use Rattle.control_flow_theory.specs.graph_rules.Shapes.{arms_leaves_to}
use Rattle.branch_tree.specs.Tree.{seen_trees}
use Rattle.branch_tree.proofs.jumps.+jumps.Given as goal

abbrev pub invariant-one_jumps-loop-arm : goal.invariant-one_jumps-loop-arm
invariant-one_jumps-loop-arm l =
    is_above (arms_leaves_to l.label (seen_trees (drop l.arm-index l.arms)))
    ≡ is_above (arms_leaves_to l.label (seen_trees l.arms))
