use Rattle.std.proofs.Common.{◌≡◌, ◌++◌, drop, map}
use Rattle.cobol_theory.specs.cell_serving.Entries.{entries_of}
use Rattle.added_items.specs.item_table.Naming.{seen_item}
use Rattle.added_items.proofs.entries.entries.add_entries.Given as goal

abbrev pub invariant-loop-item : goal.invariant-loop-item
invariant-loop-item l =
    l.entries ++ entries_of (map seen_item (drop l.item-index l.items)) ≡ l.fn.entries ++ entries_of (map seen_item l.items)
