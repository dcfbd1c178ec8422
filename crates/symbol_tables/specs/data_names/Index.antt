-- Looking up by one word of a reference: the numbers of the entries that it names or may qualify,
-- in their order.
use Rattle.std.specs.Prelude.{ℕ, Bool, ◌+◌, List, [], ◌∷◌, Option, Some, None, slice_get, if◌then◌else◌}
use Rattle.std.specs.List.{fold, list_any}
use Rattle.std.specs.Option.{unwrap_or}
use Rattle.std.specs.Str.{bytes_eq}
use Rattle.indexmap.specs.IndexMap.{IndexMap, get}
use Rattle.symbol_tables.specs.declared.data_names.name.Referent.{Referent}
use Rattle.symbol_tables.specs.declared.data_names.name.Referent.TheVariants as found
use Rattle.symbol_tables.specs.declared.data_names.name.Name.{Name}
use Rattle.symbol_tables.specs.data_names.Look.{fits, is_called}

-- the numbers of these entries that have a property, from this number on
abbrev pub places_from : (has : Name → Bool) → (at : ℕ) → List Name → List ℕ
places_from has at [] = []
places_from has at (name ∷ names) =
    if has name then at ∷ places_from has (at + 1) names else places_from has (at + 1) names

-- the entries that a word names
abbrev pub places_of : List ℕ → List Name → List ℕ
places_of word names = places_from (λ name. is_called word name.word) 0 names

-- the entries that a word may qualify
abbrev pub places_within : List ℕ → List Name → List ℕ
places_within word names = places_from (λ name. list_any (bytes_eq word) name.above) 0 names

-- what was found, and one item more
abbrev pub and_item : Referent → ℕ → Name → Referent
and_item found.Unknown item name = found.Item item name.kind name.dims
and_item _ item name = found.Ambiguous

-- what was found with the item of this number too, where it fits
abbrev pub tally_by : List ℕ → (of : List (List ℕ)) → Referent → ℕ → Option Name → Referent
tally_by word of result item None = result
tally_by word of result item (Some name) =
    if fits word of name then and_item result item name else result

-- the item of this number too, where it fits the reference
abbrev pub tally : List Name → List ℕ → (of : List (List ℕ)) → Referent → ℕ → Referent
tally names word of result item = tally_by word of result item (slice_get names item)

-- what a reference stands for, among the items with these numbers
abbrev pub find_among : List Name → List ℕ → (of : List (List ℕ)) → (places : List ℕ) → Referent
find_among names word of places = fold (tally names word of) found.Unknown places

-- the numbers that an index has for a word
abbrev pub numbers_in : {S : Type 0} → IndexMap (List ℕ) (List ℕ) S → List ℕ → List ℕ
numbers_in index word = unwrap_or (get bytes_eq index word) []
