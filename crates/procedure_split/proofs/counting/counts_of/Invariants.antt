use Rattle.std.proofs.Common.{◌≡◌, drop, map}
use Rattle.added_items.specs.item_table.Naming.{item_kind}
use Rattle.procedure_split.specs.Counting.{counted_on, counts_of}
use Rattle.procedure_split.proofs.counting.counts_of.Given as goal

abbrev pub invariant-loop-item : goal.invariant-loop-item
invariant-loop-item l =
    counted_on l.counts (map item_kind (drop l.item-index l.added))
    ≡ counts_of (map item_kind l.added)
