-- The names of added items, and their entries.
use Rattle.std.specs.Prelude.{ℕ, suc, ◌++◌, Bool, true, false, List, [], ◌∷◌, codes}
use Rattle.std.specs.Fmt.{decimal}
use Rattle.control_flow_theory.specs.graph_rules.Families.{Added, Never, Flag, Count, State, Exit}
use Rattle.out_names.specs.FreshWords.{fresh_number}
use Rattle.cobol_theory.specs.cell_serving.Entries.{CellEntry}
use Rattle.branch_tree.specs.Graph.{seen_added}
use Rattle.added_items.specs.item_table.Owners.{item_kinds}
use Rattle.added_items.specs.item_table.Row.{CellRange}
use Rattle.added_items.specs.declared.item_table.naming.AddedItem.{AddedItem}
use Rattle.added_items.specs.declared.item_table.naming.NextNumbers.{NextNumbers}

-- the stem of the names of items of this kind
abbrev pub stem_of : Added → List ℕ
stem_of Never = codes "RX-NEVER-"
stem_of Flag = codes "RX-FLAG-"
stem_of Count = codes "RX-COUNT-"
stem_of State = codes "RX-STATE-"
stem_of Exit = codes "RX-EXIT-"

-- how many digits an item of this kind has
abbrev pub digits_of : Added → ℕ
digits_of Never = 1
digits_of Flag = 1
digits_of Count = 18
digits_of State = 6
digits_of Exit = 6

-- whether items of this kind have a sign
abbrev pub is_signed : Added → Bool
is_signed Never = false
is_signed Flag = false
is_signed Count = true
is_signed State = false
is_signed Exit = false

-- the number from which the next one of the kind is looked for
abbrev pub next_of : NextNumbers → Added → ℕ
next_of next Never = next.never
next_of next Flag = next.flag
next_of next Count = next.count
next_of next State = next.state
next_of next Exit = next.exit

-- the numbers, with this one to be tried next for the kind
abbrev pub with_next : NextNumbers → Added → ℕ → NextNumbers
with_next next Never number = record next { never = number }
with_next next Flag number = record next { flag = number }
with_next next Count number = record next { count = number }
with_next next State number = record next { state = number }
with_next next Exit number = record next { exit = number }

-- the numbers from which names are looked for at first
abbrev pub all_from_one : NextNumbers
all_from_one = record { never = 1; flag = 1; count = 1; state = 1; exit = 1 }

-- the item of this name and kind
abbrev pub entry_named : (name : List ℕ) → Added → CellEntry
entry_named name kind =
    record { name = name; digits = digits_of kind; signed = is_signed kind }

-- each takes the next number of its stem with which it is no word of the table
abbrev pub entries_from : List (List ℕ) → NextNumbers → List Added → List CellEntry
entries_from words next [] = []
entries_from words next (kind ∷ kinds) =
    let number = fresh_number words (stem_of kind) (next_of next kind) in
    entry_named (stem_of kind ++ decimal number) kind
    ∷ entries_from words (with_next next kind (suc number)) kinds

-- the entries of the items that stand for the cells of these ranges
abbrev pub entries_for : List (List ℕ) → List CellRange → List CellEntry
entries_for words ranges = entries_from words all_from_one (item_kinds ranges)

-- an added item, with its name and kind
abbrev pub seen_item : AddedItem → CellEntry
seen_item item = entry_named item.name (seen_added item.kind)

-- what an item is for
abbrev pub item_kind : AddedItem → Added
item_kind item = seen_added item.kind
