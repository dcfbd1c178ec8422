use Rattle.std.proofs.Common.{◌≡◌, ◌++◌, drop}
use Rattle.added_items.specs.item_table.Row.{in_row}
use Rattle.added_items.specs.item_table.Seen.{cells_of}
use Rattle.added_items.proofs.item_table.row.add_named.Given as goal

abbrev pub invariant-loop-mention : goal.invariant-loop-mention
invariant-loop-mention l =
    l.named ++ in_row l.before l.count (cells_of (drop l.mention-index l.told))
    ≡ l.fn.named ++ in_row l.before l.count (cells_of l.told)
