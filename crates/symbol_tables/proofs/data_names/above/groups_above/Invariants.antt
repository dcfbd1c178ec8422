use Rattle.std.proofs.Common.{◌≡◌, ◌+◌, ◌≤◌, ◌++◌, length}
use Rattle.symbol_tables.specs.data_names.Grouping.{dims_in, group_words}
use Rattle.symbol_tables.specs.data_names.Nesting.{count_to, groups_from}
use Rattle.symbol_tables.proofs.data_names.above.groups_above.Given as goal

abbrev pub invariant-loop-next : goal.invariant-loop-next
invariant-loop-next l = record {
  within : count_to l.next ≤ length l.entries;
  room : l.dims + count_to l.next ≤ length l.entries;
  words : l.words ++ group_words (groups_from l.entries l.next) ≡ group_words (groups_from l.entries l.fn.holder);
  dims : l.dims + dims_in (groups_from l.entries l.next) ≡ dims_in (groups_from l.entries l.fn.holder);
}

abbrev pub decreases-loop-next : goal.decreases-loop-next
decreases-loop-next l = count_to l.next
