use Rattle.std.proofs.Common.{◌≡◌, length, take}
use Rattle.symbol_tables.specs.data_names.Nesting.{nestings_of}
use Rattle.symbol_tables.proofs.data_names.nesting.nestings_of.Given as goal

abbrev pub invariant-loop-entry : goal.invariant-loop-entry
invariant-loop-entry l = record {
  count : length l.nestings ≡ l.entry-index;
  table : l.nestings ≡ take l.entry-index (nestings_of l.entries);
}
