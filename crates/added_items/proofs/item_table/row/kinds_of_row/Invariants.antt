use Rattle.std.proofs.Common.{◌≡◌, ◌++◌, drop, map}
use Rattle.branch_tree.specs.Graph.{seen_added}
use Rattle.added_items.specs.item_table.Row.{kinds_of_row}
use Rattle.added_items.specs.item_table.Seen.{seen_ranges}
use Rattle.added_items.proofs.item_table.row.kinds_of_row.Given as goal

abbrev pub invariant-loop-at : goal.invariant-loop-at
invariant-loop-at l =
    map seen_added l.kinds ++ kinds_of_row (seen_ranges (drop l.at l.ranges)) ≡ kinds_of_row (seen_ranges l.ranges)
