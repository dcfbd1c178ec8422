-- The groups that an entry is in, by level numbers. They are looked for within its FD, or
-- within working storage: an entry of another file, or of none, ends the search.
use Rattle.std.specs.Prelude.{ℕ, Bool, true, false, ◌&&◌, ◌||◌, ◌==◌, nat_lt, List, [], ◌∷◌, Option, Some, None, if◌then◌else◌}
use Rattle.std.specs.List.{count_by, filter_map}
use Rattle.std.specs.Option.{is_some}
use Rattle.cob_tree.specs.declared.entry.Entry.{Entry}

-- the levels of items in records, 01 to 49; 77 and 88 are apart, and no other is a level
abbrev pub is_numbered : ℕ → Bool
is_numbered level = nat_lt 0 level && nat_lt level 50

-- An entry of this level is in what has a lower level than this: a level 88 in any item, an
-- item of level 77 in none.
abbrev pub bound_of : ℕ → ℕ
bound_of level = if nat_lt level 50 || level == 88 then level else 0

-- the entry is an item that holds what is bounded so
abbrev pub holds : ℕ → Entry → Bool
holds bound entry = (is_numbered entry.level || entry.level == 77) && nat_lt entry.level bound

-- both entries are of one file, or of none
abbrev pub same_file : Option ℕ → Option ℕ → Bool
same_file None None = true
same_file (Some file) (Some other) = file == other
same_file _ _ = false

-- The nearest item of a lower level than the bound among the entries before, the last first, then
-- the groups of that one.
unfoldable pub groups_of : (bound : ℕ) → (file : Option ℕ) → (before : List Entry) → List Entry
groups_of bound file [] = []
groups_of bound file (entry ∷ before) =
    if same_file file entry.file
    then (if holds bound entry
    then entry ∷ groups_of (bound_of entry.level) file before
    else groups_of bound file before)
    else []

-- an entry of this level has items below it: the next item with a level of records is of a higher
-- one
unfoldable pub has_items : (level : ℕ) → (file : Option ℕ) → (behind : List Entry) → Bool
has_items level file [] = false
has_items level file (entry ∷ behind) =
    if same_file file entry.file
    then (if is_numbered entry.level then nat_lt level entry.level else has_items level file behind)
    else false

-- the word, if there is one
abbrev pub word_list : Option (List ℕ) → List (List ℕ)
word_list None = []
word_list (Some word) = word ∷ []

-- the names of these groups, without FILLER
abbrev pub group_words : List Entry → List (List ℕ)
group_words groups = filter_map (λ entry. entry.name) groups

-- the entry has an OCCURS clause
abbrev pub repeats : Entry → Bool
repeats entry = is_some entry.occurs

-- how many of these repeat
abbrev pub dims_in : List Entry → ℕ
dims_in groups = count_by repeats groups
