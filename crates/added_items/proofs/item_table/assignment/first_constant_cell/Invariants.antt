use Rattle.std.proofs.Common.{◌≡◌, ◌≤◌, ◌+◌, drop, map, length}
use Rattle.branch_tree.specs.Graph.{seen_added}
use Rattle.added_items.specs.item_table.Owners.{first_constant_cell}
use Rattle.added_items.proofs.item_table.assignment.first_constant_cell.Given as goal

abbrev pub invariant-loop-left : goal.invariant-loop-left
invariant-loop-left l = record {
  within : l.first + l.left ≤ length l.kinds;
  so : l.first ≡ first_constant_cell (map seen_added (drop l.left l.kinds));
}

abbrev pub decreases-loop-left : goal.decreases-loop-left
decreases-loop-left l = l.left
