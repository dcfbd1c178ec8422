-- What a trail is to come to, and when it is there.
use Rattle.std.proofs.Common.{◌≡◌, ◌+◌, ◌<◌, ◌≤◌, ℕ, zero, suc, true, false, ◌||◌, ◌==◌, if◌then◌else◌, IsTrue, ◌↔◌, List, [], ◌∷◌, drop, length, refl, ap, ◌∙◌, arith, length-drop, eqb-true, eq-eqb, nat_eq}
use Rattle.cob_tree.specs.declared.program.Range.{Range}
use Rattle.program_points.specs.declared.paths.trail.Move.{Move}
use Rattle.program_points.specs.declared.paths.trail.Move.TheVariants.{Into}
use Rattle.program_points.specs.paths.Step.{Ends}
use Rattle.program_points.specs.paths.Flow.{is_among}
use Rattle.program_points.specs.paths.Accepted.{Aim, Return, Enter, Fault, Meets}
use Rattle.overlap_trail.specs.Checking.{top_is, below_is}

pub end-moves : (aim : Aim) (range : Range) (paragraph : ℕ) (moves : List Move) → Meets aim range (Ends paragraph) moves → moves ≡ []
end-moves Return range paragraph moves h = h.0
end-moves (Enter called) range paragraph moves h = absurd h
end-moves (Fault fault ends) range paragraph moves h = h.0

pub some-left : (moves : List Move) (taken : ℕ) → taken < length moves → drop taken moves ≡ [] → ⊥
some-left moves taken lt e = (let k : length (drop taken moves) ≡ 0 = ap (λ (xs : List Move). length xs) e in omega (arith, length-drop taken moves))

pub none-left : (moves : List Move) (taken : ℕ) → length moves ≤ taken → drop taken moves ≡ []
none-left [] zero le = refl
none-left [] (suc taken) le = refl
none-left (move ∷ moves) zero le = absurd (omega arith)
none-left (move ∷ moves) (suc taken) le = none-left moves taken (omega arith)

pub into-last : (moves : List Move) (taken : ℕ) → drop taken moves ≡ Into ∷ drop (taken + 1) moves → taken < length moves → IsTrue (nat_eq (taken + 1) (length moves)) ↔ (drop taken moves ≡ Into ∷ [])
into-last moves taken e lt = (
  (λ h. e ∙ ap (λ ms. Into ∷ ms) (none-left moves (taken + 1) (let k : taken + 1 ≡ length moves = eqb-true (taken + 1) (length moves) h in omega arith))),
  (λ h. eq-eqb (taken + 1) (length moves) (let k : length (drop taken moves) ≡ 1 = ap (λ (xs : List Move). length xs) h in omega (arith, length-drop taken moves))),
)

pub among_stands : (paragraph : ℕ) (ends : List ℕ) → (top_is paragraph ends || below_is paragraph ends) ≡ is_among paragraph ends
among_stands paragraph [] = refl
among_stands paragraph (top ∷ others) = elim (top == paragraph) as (λ b. (b || is_among paragraph others) ≡ (if b then true else is_among paragraph others)) [ true ↦ refl | false ↦ refl ]
