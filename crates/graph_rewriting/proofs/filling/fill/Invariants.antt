use Rattle.std.proofs.Common.{length}
use Rattle.branch_tree.specs.Graph.{seen_nodes}
use Rattle.graph_rewriting.proofs.FillRows.{Filling}
use Rattle.graph_rewriting.proofs.filling.fill.Given as goal

abbrev pub invariant-loop-node : goal.invariant-loop-node
invariant-loop-node l = Filling (seen_nodes l.nodes.items) (seen_nodes l.fn.nodes.items) l.keys l.slots

abbrev pub decreases-loop-node : goal.decreases-loop-node
decreases-loop-node l = length l.nodes.items
