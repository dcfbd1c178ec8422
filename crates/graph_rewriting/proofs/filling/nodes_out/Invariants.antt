use Rattle.std.proofs.Common.{◌≤◌, ◌+◌, length}
use Rattle.std.specs.Vec.{vec_len, vec_capacity}
use Rattle.branch_tree.specs.Graph.{seen_nodes}
use Rattle.graph_rewriting.specs.Work.{nodes_by}
use Rattle.graph_rewriting.proofs.FillRows.{Emptying}
use Rattle.graph_rewriting.proofs.filling.nodes_out.Given as goal

abbrev pub invariant-loop-key : goal.invariant-loop-key
invariant-loop-key l = record {
  emptying : Emptying l.keys l.slots (seen_nodes l.nodes.items) (seen_nodes (nodes_by l.fn.slots l.fn.keys.entries));
  enough : vec_len l.nodes + length l.keys.entries ≤ vec_capacity l.nodes;
}

abbrev pub decreases-loop-key : goal.decreases-loop-key
decreases-loop-key l = length l.keys.entries
