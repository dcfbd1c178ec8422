use Rattle.std.proofs.Common.{◌≡◌, length, take}
use Rattle.declaration_checks.specs.Tables.{alikes_of}
use Rattle.declaration_checks.proofs.table.alikes_of.Given as goal

abbrev pub invariant-loop-entry : goal.invariant-loop-entry
invariant-loop-entry l = record {
  count : length l.alikes ≡ l.entry-index;
  table : l.alikes ≡ take l.entry-index (alikes_of l.entries);
}
