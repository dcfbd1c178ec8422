-- Where the procedures of ranges are.
use Rattle.std.specs.Prelude.{ℕ, ◌≡◌, ◌<◌, ◌⊎◌, List, Some, slice_get}
use Rattle.control_flow_theory.specs.language.Language.{Range, Part}
use Rattle.statement_builders.specs.declared.arms.placing.ProcedurePlace.{ProcedurePlace}

-- each range in the list has the place that is given there
abbrev pub ArePlaced : (Range → ℕ) → List ProcedurePlace → Type 0
ArePlaced place places = (at : ℕ) (placed : ProcedurePlace) → slice_get places at ≡ Some placed →
    place (Part placed.entry placed.exit) ≡ placed.place

-- the one range comes before the other, by entry, and then by exit
abbrev pub IsBefore : (entry exit other_entry other_exit : ℕ) → Type 0
IsBefore entry exit other_entry other_exit =
    (entry < other_entry) ⊎ ((entry ≡ other_entry) × (exit < other_exit))

-- the ranges in the list ascend
abbrev pub AreInOrder : List ProcedurePlace → Type 0
AreInOrder places = (first second : ℕ) (one other : ProcedurePlace) → first < second →
    slice_get places first ≡ Some one → slice_get places second ≡ Some other →
    IsBefore one.entry one.exit other.entry other.exit

-- the list says that this is the range's place
abbrev pub HasPlace : List ProcedurePlace → (entry exit : ℕ) → ℕ → Type 0
HasPlace places entry exit number = (at : ℕ)
    × (slice_get places at ≡ Some (record { entry = entry; exit = exit; place = number }))

-- the list, where it is in order, says no place of the range
abbrev pub HasNone : List ProcedurePlace → (entry exit : ℕ) → Type 0
HasNone places entry exit =
    AreInOrder places → (number : ℕ) → HasPlace places entry exit number → ⊥
