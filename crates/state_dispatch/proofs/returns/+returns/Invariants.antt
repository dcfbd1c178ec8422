use Rattle.std.proofs.Common.{◌≡◌, drop}
use Rattle.control_flow_theory.specs.structuring.Dispatches.{trees_return}
use Rattle.branch_tree.specs.Tree.{seen_trees}
use Rattle.state_dispatch.proofs.returns.+returns.Given as goal

abbrev pub invariant-trees_return-loop-arm : goal.invariant-trees_return-loop-arm
invariant-trees_return-loop-arm l =
    trees_return (seen_trees (drop l.arm-index l.arms)) ≡ trees_return (seen_trees l.arms)
