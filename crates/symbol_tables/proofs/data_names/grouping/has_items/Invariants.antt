use Rattle.std.proofs.Common.{◌≡◌, drop}
use Rattle.symbol_tables.specs.data_names.Grouping.{has_items}
use Rattle.symbol_tables.proofs.data_names.grouping.has_items.Given as goal

abbrev pub invariant-loop-entry : goal.invariant-loop-entry
invariant-loop-entry l = has_items l.level l.file l.behind ≡ has_items l.level l.file (drop l.entry-index l.behind)
