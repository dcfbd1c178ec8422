use Rattle.std.proofs.Common.{◌≡◌, ◌-◌, ◌^◌, min, take, sum_by}
use Rattle.branch_tree.specs.Graph.{seen_node}
use Rattle.flow_graph.specs.graph_sizes.Sizing.{node_size}
use Rattle.flow_graph.proofs.graph_sizes.sizing.graph_size.Given as goal

abbrev pub invariant-loop-node : goal.invariant-loop-node
invariant-loop-node l =
    l.count ≡ min (sum_by (λ node. node_size (seen_node node)) (take l.node-index l.node-items)) (2 ^ 64 - 1)
