-- Places of procedures, one after the other.
use Rattle.std.proofs.Common.{◌≡◌, ℕ, suc, List, [], ◌∷◌, ◌++◌, length, Option, Some, None, refl, ap, ◌∙◌, subst, arith}
use Rattle.std.specs.List.{All}
use Rattle.std.specs.List.Sorted.{IsPermutation}
use Rattle.std.specs.Prelude.{slice_get}
use Rattle.std.proofs.lemmas.List.{length_push}
use Rattle.std.proofs.lemmas.List.Elements.{All-append, All-cons, All-get_or, All-nil}
use Rattle.std.proofs.lemmas.List.Sorted.{All-permutation}
use Rattle.std.proofs.lemmas.Option.{get_or_from_slice_get, slice_get_within}
use Rattle.cob_tree.specs.declared.program.Range.{Range}
use Rattle.statement_builders.specs.declared.arms.placing.ProcedurePlace.{ProcedurePlace}
use Rattle.procedure_split.specs.made_procedures.Made.{ArePlacesIn}
use Rattle.procedure_split.specs.Placing.{placed_to, place_at, places_from}

abbrev IsThere : List Range → ProcedurePlace → Type 0
IsThere order placed = slice_get order placed.place
    ≡ Some (record { entry = placed.entry; exit = Some placed.exit })

behind : (done : List Range) (range : Range) (left : List Range) →
    slice_get (done ++ range ∷ left) (length done) ≡ Some range
behind [] range left = refl
behind (first ∷ done) range left = behind done range left

joined : (done : List Range) (range : Range) (left : List Range) →
    done ++ range ∷ left ≡ (done ++ range ∷ []) ++ left
joined [] range left = refl
joined (first ∷ done) range left = ap (λ rs. first ∷ rs) (joined done range left)

one-there : (order : List Range) (place entry : ℕ) (exit : Option ℕ) →
    slice_get order place ≡ Some (record { entry = entry; exit = exit }) →
    All (IsThere order) (placed_to entry exit place)
one-there order place entry None is = All-nil (IsThere order)
one-there order place entry (Some exit) is =
    All-cons (IsThere order) _ [] is (All-nil (IsThere order))

all-there : (order done left : List Range) (place : ℕ) → place ≡ length done →
    order ≡ done ++ left → All (IsThere order) (places_from place left)
all-there order done [] place at is = All-nil (IsThere order)
all-there order done (range ∷ ranges) place at is =
    let here : slice_get order place ≡ Some range =
    ap (slice_get order) at ∙ ap (λ rs. slice_get rs (length done)) is
    ∙ behind done range ranges in
    let size = length_push done range in
    All-append (IsThere order) (place_at range place) (places_from (suc place) ranges)
    (one-there order place range.entry range.exit here)
    (all-there order (done ++ range ∷ []) ranges (suc place) (omega (arith, size, at))
    (is ∙ joined done range ranges))

pub are-places : (order : List Range) (places : List ProcedurePlace) →
    IsPermutation (places_from 0 order) places → ArePlacesIn order places
are-places order places moved = λ at placed got.
    let all = All-permutation (IsThere order) (places_from 0 order) places moved
    (all-there order [] order 0 refl refl) in
    subst (IsThere order) (get_or_from_slice_get places at placed placed got)
    (All-get_or (IsThere order) places at placed (slice_get_within places at placed got) all)
