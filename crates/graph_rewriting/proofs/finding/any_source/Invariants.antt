use Rattle.std.proofs.Common.{◌≡◌}
use Rattle.control_flow_theory.specs.graph_rules.Reduced.{all_leaves_to}
use Rattle.branch_tree.specs.Graph.{seen_nodes}
use Rattle.graph_rewriting.specs.Work.{nodes_by}
use Rattle.graph_rewriting.proofs.finding.any_source.Given as goal

abbrev pub invariant-loop-from : goal.invariant-loop-from
invariant-loop-from l =
    all_leaves_to l.label (seen_nodes (nodes_by l.slots l.from-iterator))
    ≡ all_leaves_to l.label (seen_nodes (nodes_by l.slots l.keys.entries))
