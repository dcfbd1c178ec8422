use Rattle.std.proofs.Common.{◌≡◌, ◌++◌, drop}
use Rattle.branch_tree.specs.Graph.{seen_nodes}
use Rattle.added_items.specs.counters.Counting.{counters_from, counters_in}
use Rattle.added_items.proofs.counters.counting.counters_in.Given as goal

abbrev pub invariant-loop-node : goal.invariant-loop-node
invariant-loop-node l =
    l.cells.items ++ counters_from l.least (seen_nodes (drop l.node-index l.nodes))
    ≡ counters_in (seen_nodes l.nodes)
