use Rattle.std.proofs.Common.{◌≡◌, ◌++◌, ◌∷◌, [], ℕ, List, take, if◌then◌else◌}
use Rattle.std.specs.List.{list_any}
use Rattle.std.specs.Str.{bytes_eq}
use Rattle.symbol_tables.specs.data_names.Index.{numbers_in}
use Rattle.symbol_tables.proofs.data_names.index.add_to_each.Given as goal

abbrev pub invariant-loop-at : goal.invariant-loop-at
invariant-loop-at l = (other : List ℕ) → numbers_in l.index other ≡ numbers_in l.fn.index other ++ (if list_any (bytes_eq other) (take l.at l.words) then l.number ∷ [] else [])
