use Rattle.std.proofs.Common.{take}
use Rattle.branch_tree.specs.Graph.{seen_nodes}
use Rattle.graph_rewriting.specs.Filling.{Emptied}
use Rattle.graph_rewriting.proofs.filling.empty_slots.Given as goal

abbrev pub invariant-loop-node : goal.invariant-loop-node
invariant-loop-node l = Emptied (seen_nodes (take l.node-index l.nodes)) l.keys l.slots
