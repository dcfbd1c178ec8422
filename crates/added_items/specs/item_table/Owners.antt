-- Which item each cell has: items in the order in which the text first names their cells.
use Rattle.std.specs.Prelude.{ℕ, zero, suc, Bool, true, false, if◌then◌else◌, ◌==◌, List, [], ◌∷◌, ◌++◌, length, map, Option, Some, None, is_some}
use Rattle.control_flow_theory.specs.graph_rules.Families.{Added, Never, Flag, Count, State, Exit}
use Rattle.control_flow_theory.specs.graph_rules.Reduced.{kind_at}
use Rattle.added_items.specs.item_table.Row.{CellRange, kinds_of_row, named_behind}

-- the cell never changes
abbrev pub is_never : Added → Bool
is_never Never = true
is_never Flag = false
is_never Count = false
is_never State = false
is_never Exit = false

-- what a cell is for; past the last one, a cell that never changes
abbrev pub or_never : Option Added → Added
or_never None = Never
or_never (Some kind) = kind

-- what the cell at this place is for
abbrev pub kind_in : List Added → ℕ → Added
kind_in kinds place = or_never (kind_at kinds place)

-- the first place of a cell that never changes
abbrev pub first_constant_cell : List Added → ℕ
first_constant_cell [] = 0
first_constant_cell (kind ∷ kinds) = if is_never kind then 0 else suc (first_constant_cell kinds)

-- the cell whose item the cell at this place has: one item serves all cells that never change
abbrev pub owner_of : List Added → ℕ → ℕ
owner_of kinds place = if is_never (kind_in kinds place) then first_constant_cell kinds else place

-- one place further on, if there is one
abbrev pub further : Option ℕ → Option ℕ
further None = None
further (Some place) = Some (suc place)

-- the place of the number in the list, from 0, if it is there
abbrev pub place_in : List ℕ → ℕ → Option ℕ
place_in [] number = None
place_in (first ∷ others) number =
    if first == number then Some 0 else further (place_in others number)

-- each number once, after those that are there
abbrev pub with_number : List ℕ → ℕ → List ℕ
with_number numbers number =
    if is_some (place_in numbers number) then numbers else numbers ++ number ∷ []

-- each number of the second list once, after those of the first
abbrev pub each_once : List ℕ → List ℕ → List ℕ
each_once numbers [] = numbers
each_once numbers (number ∷ others) = each_once (with_number numbers number) others

-- the numbers from this one on, so many
abbrev pub counted_on : ℕ → ℕ → List ℕ
counted_on from zero = []
counted_on from (suc more) = from ∷ counted_on (suc from) more

-- the cells that have items of their own, in the order of the items; those that no statement names
-- come after all that are named
abbrev pub holders_of : List CellRange → List ℕ
holders_of ranges =
    let kinds = kinds_of_row ranges in
    each_once [] (map (owner_of kinds) (named_behind 0 ranges ++ counted_on 0 (length kinds)))

-- what each item is for
abbrev pub item_kinds : List CellRange → List Added
item_kinds ranges = map (kind_in (kinds_of_row ranges)) (holders_of ranges)
