-- What a reference stands for.
use Rattle.std.specs.Prelude.{ℕ, ◌+◌, Bool, true, false, ◌&&◌, List, [], ◌∷◌, Option, Some, None, drop, position, slice_get, if◌then◌else◌}
use Rattle.std.specs.List.{list_any}
use Rattle.std.specs.Str.{bytes_eq}
use Rattle.symbol_tables.specs.declared.data_names.name.Referent.{Referent}
use Rattle.symbol_tables.specs.declared.data_names.name.Referent.TheVariants as found
use Rattle.symbol_tables.specs.declared.data_names.name.Name.{Name}
use Rattle.symbol_tables.specs.data_names.Names.{Names}

-- the qualifiers are some of these names, in their order
unfoldable pub are_within : (of above : List (List ℕ)) → Bool
are_within [] above = true
are_within (first ∷ others) [] = false
are_within (first ∷ others) (name ∷ outer) =
    if bytes_eq first name then are_within others outer else are_within (first ∷ others) outer

-- the name is there, and is this word
abbrev pub is_called : List ℕ → Option (List ℕ) → Bool
is_called word None = false
is_called word (Some name) = bytes_eq word name

-- the word is the item's name, and the qualifiers are groups above it or its file
abbrev pub fits : List ℕ → (of : List (List ℕ)) → Name → Bool
fits word of name = is_called word name.word && are_within of name.above

-- the item of this number as what was found
abbrev pub found_at : ℕ → Option Name → Referent
found_at item None = found.Unknown
found_at item (Some name) = found.Item item name.kind name.dims

-- the first item that fits, where none after it does
abbrev pub found_from : List Name → List ℕ → List (List ℕ) → Option ℕ → Referent
found_from names word of None = found.Unknown
found_from names word of (Some item) =
    if list_any (fits word of) (drop (item + 1) names)
    then found.Ambiguous
    else found_at item (slice_get names item)

-- the one entry that a reference fits; none, or that it is ambiguous
abbrev pub find : List Name → List ℕ → List (List ℕ) → Referent
find names word of = found_from names word of (position (fits word of) names)

-- what a reference to an item stands for
abbrev pub look : Names → List ℕ → List (List ℕ) → Referent
look names word of = find names.items word of

-- the number of the file with this name
abbrev pub look_file : Names → List ℕ → Option ℕ
look_file names word = position (bytes_eq word) names.files
