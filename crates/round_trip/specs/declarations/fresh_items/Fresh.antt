-- Items whose names are stems with the next numbers that make no word of a table.
use Rattle.std.specs.Prelude.{ℕ, suc, ◌≤◌, Bool, true, false, List, [], ◌∷◌, ◌++◌, codes, length, if◌then◌else◌}
use Rattle.std.specs.Fmt.{decimal}
use Rattle.control_flow_theory.specs.graph_rules.Families.{Added, Never, Flag, Count, State, Exit}
use Rattle.out_names.specs.FreshWords.{fresh_number}
use Rattle.round_trip.specs.declarations.added_entries.Items.{WholeItem}

-- the stem of the names of items of this kind
abbrev pub stem_of : Added → List ℕ
stem_of Never = codes "RX-NEVER-"
stem_of Flag = codes "RX-FLAG-"
stem_of Count = codes "RX-COUNT-"
stem_of State = codes "RX-STATE-"
stem_of Exit = codes "RX-EXIT-"

-- how many digits items of this kind have
abbrev pub digits_of : Added → ℕ
digits_of Never = 1
digits_of Flag = 1
digits_of Count = 18
digits_of State = 6
digits_of Exit = 6

-- whether items of this kind have a sign
abbrev pub is_signed : Added → Bool
is_signed Never = false
is_signed Flag = false
is_signed Count = true
is_signed State = false
is_signed Exit = false

-- the two kinds are one
abbrev pub same_kind : Added → Added → Bool
same_kind Never Never = true
same_kind Flag Flag = true
same_kind Count Count = true
same_kind State State = true
same_kind Exit Exit = true
same_kind _ _ = false

-- the number from which the next one of each kind is looked for
abbrev pub NextOf : Type 0
NextOf = Added → ℕ

-- the numbers, with this one to be tried next for the kind
abbrev pub with_next : NextOf → Added → ℕ → NextOf
with_next next kind number other = if same_kind kind other then number else next other

-- the item of this name and kind
abbrev pub item_named : List ℕ → Added → WholeItem
item_named name kind = record { name = name; digits = digits_of kind; signed = is_signed kind }

-- items of these kinds, each with the next number of its stem with which it is no word of the table
abbrev pub items_from : (words : List (List ℕ)) → NextOf → List Added → List WholeItem
items_from words next [] = []
items_from words next (kind ∷ kinds) =
    let number = fresh_number words (stem_of kind) (next kind) in
    item_named (stem_of kind ++ decimal number) kind
    ∷ items_from words (with_next next kind (suc number)) kinds

-- items of these kinds, whose numbers are looked for from 1
abbrev pub fresh_items : (words : List (List ℕ)) → List Added → List WholeItem
fresh_items words kinds = items_from words (λ kind. 1) kinds

-- the names have at most 30 bytes
abbrev pub AreShort : List WholeItem → Type 0
AreShort [] = Unit {0}
AreShort (item ∷ items) = (length item.name ≤ 30) × AreShort items
