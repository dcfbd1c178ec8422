-- Where an entry is among those of its program.
use Rattle.std.specs.Prelude.{ℕ, ◌+◌, Bool, ◌||◌, List, take, drop, reverse, Option}
use Rattle.std.specs.List.{list_any}
use Rattle.std.specs.Option.{is_some}
use Rattle.cob_tree.specs.declared.entry.Entry.{Entry}
use Rattle.symbol_tables.specs.data_names.Grouping.{bound_of, dims_in, groups_of}
use Rattle.symbol_tables.specs.data_names.Nesting.{nearest}
use Rattle.declaration_checks.specs.declared.standing.Standing.{Standing}

-- the entries before one
abbrev pub before : List Entry → ℕ → List Entry
before entries at = take at entries

-- the entries after one
abbrev pub behind : List Entry → ℕ → List Entry
behind entries at = drop (at + 1) entries

-- the number of the item or group that an entry is in
abbrev pub holder_of : Entry → (before : List Entry) → Option ℕ
holder_of entry before = nearest (bound_of entry.level) entry.file (reverse before)

-- nothing below this group may have a value, since it redefines, repeats or has a value
abbrev pub bars_value : Entry → Bool
bars_value group = is_some group.redefines || (is_some group.occurs || is_some group.value)

-- what the groups above an entry are: how many of them repeat, and whether one bars a value
abbrev pub standing_in : List Entry → Standing
standing_in groups = record { dims = dims_in groups; barred = list_any bars_value groups }

-- what the groups above an entry are, by the entries before it
abbrev pub standing_of : Entry → (before : List Entry) → Standing
standing_of entry before =
    standing_in (groups_of (bound_of entry.level) entry.file (reverse before))
