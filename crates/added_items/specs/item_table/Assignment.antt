-- The numbers of items, beside the list of the cells that have them.
use Rattle.std.specs.Prelude.{ℕ, ◌≡◌, ◌<◌, List, [], ◌∷◌, length, Option, None, slice_index_or}
use Rattle.added_items.specs.item_table.Owners.{place_in}

-- these are the numbers of the items, each at its place
abbrev pub AreHeld : (held : List ℕ) → (numbers : List (Option ℕ)) → Type 0
AreHeld held numbers =
    (place : ℕ) → place < length numbers → slice_index_or numbers place None ≡ place_in held place

-- each of these places is below the count
abbrev pub AreWithin : ℕ → List ℕ → Type 0
AreWithin count [] = Unit {0}
AreWithin count (place ∷ places) = (place < count) × AreWithin count places
