use Rattle.std.proofs.Common.{◌≡◌, ◌++◌, drop}
use Rattle.added_items.specs.item_table.Seen.{cell_uses_of}
use Rattle.added_items.proofs.item_table.row.cell_uses_of.Given as goal

abbrev pub invariant-loop-at : goal.invariant-loop-at
invariant-loop-at l = l.told ++ cell_uses_of (drop l.at l.ranges) ≡ cell_uses_of l.ranges
