use Rattle.std.proofs.Common.{◌≡◌, ◌++◌, [], drop, reverse, take}
use Rattle.symbol_tables.specs.data_names.Names.{names_from}
use Rattle.symbol_tables.proofs.data_names.table.item_names.Given as goal

abbrev pub invariant-loop-at : goal.invariant-loop-at
invariant-loop-at l = l.items ++ names_from l.files (reverse (take l.at l.entries)) (drop l.at l.entries) ≡ names_from l.files [] l.entries
