use Rattle.std.proofs.Common.{◌≡◌, ◌++◌, drop, map}
use Rattle.control_flow_theory.specs.main_theorem.Numbering.{counts}
use Rattle.branch_tree.specs.Graph.{seen_added}
use Rattle.added_items.proofs.counters.counting.counts.Given as goal

abbrev pub invariant-loop-cell : goal.invariant-loop-cell
invariant-loop-cell l =
    map seen_added l.added.items ++ counts (drop l._cell-index l.cells) ≡ counts l.cells
