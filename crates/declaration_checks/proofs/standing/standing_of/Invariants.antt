use Rattle.std.proofs.Common.{◌≡◌, ◌+◌, ◌≤◌, ◌||◌, length}
use Rattle.std.specs.List.{list_any}
use Rattle.symbol_tables.specs.data_names.Grouping.{dims_in}
use Rattle.symbol_tables.specs.data_names.Nesting.{count_to, groups_from}
use Rattle.declaration_checks.specs.Standing.{bars_value}
use Rattle.declaration_checks.proofs.standing.standing_of.Given as goal

abbrev pub invariant-loop-next : goal.invariant-loop-next
invariant-loop-next l = record {
  within : count_to l.next ≤ length l.entries;
  room : l.dims + count_to l.next ≤ length l.entries;
  dims : l.dims + dims_in (groups_from l.entries l.next) ≡ dims_in (groups_from l.entries l.fn.holder);
  barred : (l.barred || list_any bars_value (groups_from l.entries l.next)) ≡ list_any bars_value (groups_from l.entries l.fn.holder);
}

abbrev pub decreases-loop-next : goal.decreases-loop-next
decreases-loop-next l = count_to l.next
