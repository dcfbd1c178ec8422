use Rattle.std.proofs.Common.{◌≡◌, ℕ, List, take}
use Rattle.symbol_tables.specs.data_names.Index.{numbers_in, places_of}
use Rattle.symbol_tables.proofs.data_names.table.index_of.Given as goal

abbrev pub invariant-loop-at : goal.invariant-loop-at
invariant-loop-at l = (word : List ℕ) → numbers_in l.index word ≡ places_of word (take l.at l.items)
