use Rattle.std.proofs.Common.{◌≡◌, ℕ, List}
use Rattle.symbol_tables.specs.declared.data_names.name.Name.{Name}
use Rattle.symbol_tables.specs.data_names.Index.{find_among, numbers_in, places_of, places_within}
use Rattle.symbol_tables.specs.data_names.Look.{find}
use Rattle.symbol_tables.proofs.data_names.index.numbers_for.Given as goal

abbrev pub invariant-loop-group : goal.invariant-loop-group
invariant-loop-group l =
    (names : List Name) → ((other : List ℕ) → numbers_in l.index other ≡ places_of other names)
    → ((other : List ℕ) → numbers_in l.within other ≡ places_within other names)
    → find_among names l.word l.of l.numbers ≡ find names l.word l.of
