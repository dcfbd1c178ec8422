-- The places of procedures, in their order.
use Rattle.std.specs.Prelude.{ℕ, suc, ◌+◌, ◌*◌, ◌^◌, List, [], ◌∷◌, ◌++◌, Option, Some, None}
use Rattle.cob_tree.specs.declared.program.Range.{Range}
use Rattle.statement_builders.specs.declared.arms.placing.ProcedurePlace.{ProcedurePlace}

-- less for a smaller entry, and for a smaller exit at the same entry
abbrev pub key_of : ProcedurePlace → ℕ
key_of placed = placed.entry * 2 ^ 32 + placed.exit

-- the place of a range, if it has an exit
abbrev pub placed_to : ℕ → Option ℕ → ℕ → List ProcedurePlace
placed_to entry None place = []
placed_to entry (Some exit) place = record { entry = entry; exit = exit; place = place } ∷ []

-- the place of a range; main has none
abbrev pub place_at : Range → ℕ → List ProcedurePlace
place_at range place = placed_to range.entry range.exit place

-- the places of these ranges, the first of which has this place
abbrev pub places_from : ℕ → List Range → List ProcedurePlace
places_from place [] = []
places_from place (range ∷ ranges) = place_at range place ++ places_from (suc place) ranges
