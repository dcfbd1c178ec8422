-- How entries are nested: what each of them is in, and whether items are in it.
use Rattle.std.specs.Prelude.{ℕ, ◌+◌, List, [], ◌∷◌, length, take, reverse, Option, Some, None, if◌then◌else◌}
use Rattle.cob_tree.specs.declared.entry.Entry.{Entry}
use Rattle.symbol_tables.specs.declared.data_names.nesting.Nesting.{Nesting}
use Rattle.symbol_tables.specs.data_names.Grouping.{bound_of, groups_of, holds, same_file}
use Rattle.symbol_tables.specs.data_names.Names.{is_group}

-- the number of the nearest item that one bounded so is in, among those before it, the last
-- first
unfoldable pub nearest : (bound : ℕ) → Option ℕ → (before : List Entry) → Option ℕ
nearest bound file [] = None
nearest bound file (other ∷ before) =
    if same_file file other.file
    then (if holds bound other then Some (length before) else nearest bound file before)
    else None

-- how an entry is nested between those before it, the last first, and those after it
abbrev pub nesting_of : (before : List Entry) → Entry → (behind : List Entry) → Nesting
nesting_of before entry behind = record {
  holder = nearest (bound_of entry.level) entry.file before;
  group = is_group entry behind;
}

-- how these entries are nested, those before them the last first
unfoldable pub nestings_from : (before entries : List Entry) → List Nesting
nestings_from before [] = []
nestings_from before (entry ∷ behind) =
    nesting_of before entry behind ∷ nestings_from (entry ∷ before) behind

-- how the entries of a program are nested
abbrev pub nestings_of : List Entry → List Nesting
nestings_of entries = nestings_from [] entries

-- how many entries come up to this one, with it
abbrev pub count_to : Option ℕ → ℕ
count_to None = 0
count_to (Some number) = number + 1

-- the first of these entries, which come the last first, and its groups
abbrev pub with_groups : List Entry → List Entry
with_groups [] = []
with_groups (entry ∷ before) = entry ∷ groups_of (bound_of entry.level) entry.file before

-- the item of this number and its groups
abbrev pub groups_from : List Entry → (holder : Option ℕ) → List Entry
groups_from entries holder = with_groups (reverse (take (count_to holder) entries))
