use Rattle.std.proofs.Common.{◌≡◌, ◌++◌, drop}
use Rattle.added_items.specs.item_table.Seen.{seen_ranges}
use Rattle.procedure_split.specs.Rows.{rows_of}
use Rattle.procedure_split.proofs.rows.rows_of.Given as goal

abbrev pub invariant-loop-at : goal.invariant-loop-at
invariant-loop-at l =
    seen_ranges l.rows.items ++ rows_of (drop l.at l.order) (drop l.at l.closed)
    ≡ rows_of l.order l.closed
