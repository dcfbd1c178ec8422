use Rattle.std.proofs.Common.{◌≡◌, ◌+◌, ◌-◌, ◌^◌, ◌<◌, min, drop}
use Rattle.control_flow_theory.specs.graph_rules.Reduced.{all_leaves_to}
use Rattle.branch_tree.specs.Graph.{seen_nodes}
use Rattle.branch_tree.proofs.graph.Graph.leaves_to.Given as goal

abbrev pub invariant-loop-node : goal.invariant-loop-node
invariant-loop-node l = record {
  so :
      min (l.count + all_leaves_to l.label (seen_nodes (drop l.node-index l.self.nodes.items))) (2 ^ 32 - 1)
      ≡ min (all_leaves_to l.label (seen_nodes l.self.nodes.items)) (2 ^ 32 - 1);
  small : l.count < 2 ^ 32;
}
