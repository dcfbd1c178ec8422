use Rattle.std.proofs.Common.{◌≡◌, ◌-◌, ◌++◌}
use Rattle.added_items.specs.item_table.Owners.{counted_on}
use Rattle.added_items.specs.item_table.Row.{named_behind}
use Rattle.added_items.specs.item_table.Seen.{seen_ranges}
use Rattle.added_items.proofs.item_table.row.places_named.Given as goal

abbrev pub invariant-loop-place : goal.invariant-loop-place
invariant-loop-place l =
    l.named ++ counted_on l.place (l.count - l.place)
    ≡ named_behind 0 (seen_ranges l.ranges) ++ counted_on 0 l.count
