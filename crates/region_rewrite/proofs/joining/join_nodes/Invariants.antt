use Rattle.std.proofs.Common.{◌≡◌, ◌++◌, take, drop}
use Rattle.control_flow_theory.specs.graph_rules.Reduced.{each_tree}
use Rattle.control_flow_theory.specs.graph_rules.Shapes.{joined}
use Rattle.branch_tree.specs.Graph.{seen_nodes}
use Rattle.region_rewrite.proofs.joining.join_nodes.Given as goal

abbrev pub invariant-loop-at : goal.invariant-loop-at
invariant-loop-at l =
    seen_nodes l.nodes
    ≡ each_tree joined (take l.at (seen_nodes l.fn.nodes)) ++ drop l.at (seen_nodes l.fn.nodes)
