use Rattle.std.proofs.Common.{◌≡◌, ◌-◌, ◌^◌, min, take, sum_by}
use Rattle.branch_tree.specs.Tree.{seen_tree}
use Rattle.flow_graph.specs.graph_sizes.Sizing.{tree_size}
use Rattle.flow_graph.proofs.graph_sizes.sizing.+tree.Given as goal

abbrev pub invariant-trees_size-loop-arm : goal.invariant-trees_size-loop-arm
invariant-trees_size-loop-arm l =
    l.count ≡ min (sum_by (λ arm. tree_size (seen_tree arm)) (take l.arm-index l.arms)) (2 ^ 64 - 1)
