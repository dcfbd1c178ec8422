use Rattle.std.proofs.Common.{◌≡◌, ◌+◌, ◌++◌, drop, length}
use Rattle.added_items.specs.item_table.Row.{kinds_of_row, named_behind}
use Rattle.added_items.specs.item_table.Seen.{seen_ranges}
use Rattle.added_items.proofs.item_table.row.add_all_named.Given as goal

abbrev pub invariant-loop-at : goal.invariant-loop-at
invariant-loop-at l = record {
  total :
      l.before + length (kinds_of_row (seen_ranges (drop l.at l.ranges)))
      ≡ length (kinds_of_row (seen_ranges l.ranges));
  so :
      l.named ++ named_behind l.before (seen_ranges (drop l.at l.ranges))
      ≡ l.fn.named ++ named_behind 0 (seen_ranges l.ranges);
}
