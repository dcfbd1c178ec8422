use Rattle.std.proofs.Common.{◌≡◌, ◌≤◌, length, reverse, take}
use Rattle.symbol_tables.specs.data_names.Nesting.{count_to, nearest}
use Rattle.symbol_tables.proofs.data_names.nesting.nearest.Given as goal

abbrev pub invariant-loop-next : goal.invariant-loop-next
invariant-loop-next l = record {
  within : count_to l.next ≤ length l.nestings;
  same : nearest l.bound l.file (reverse (take (count_to l.next) l.entries)) ≡ nearest l.bound l.file (reverse (take (length l.nestings) l.entries));
}

abbrev pub decreases-loop-next : goal.decreases-loop-next
decreases-loop-next l = count_to l.next
