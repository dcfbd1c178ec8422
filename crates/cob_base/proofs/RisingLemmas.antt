-- Lists in which a number of the elements never falls.
use Rattle.std.proofs.Common.{◌≡◌, ℕ, zero, suc, ◌<◌, ◌≤◌, inl, inr, List, [], ◌∷◌, length, get_or, arith}
use Rattle.std.specs.Prelude.{AllPairs}
use Rattle.std.specs.List.Sorted.{IsNonDecreasingBy}
use Rattle.std.proofs.lemmas.Bool.{cases_lt}

module _ {X : Type 0} (n : X → ℕ) where
  -- each is at least the one before, and the first at least `least`
  abbrev pub RisesFrom : (least : ℕ) → List X → Type 0
  RisesFrom least [] = Unit {0}
  RisesFrom least (x ∷ xs) = (least ≤ n x) × RisesFrom (n x) xs

  pub rises_lower : (least now : ℕ) (xs : List X) → least ≤ now → RisesFrom now xs → RisesFrom least xs
  rises_lower least now [] le r = tt
  rises_lower least now (x ∷ xs) le r = (omega (arith, le, r.0), r.1)

  pub rising-from_pairs : (xs : List X) → AllPairs (λ x y. n x ≤ n y) xs → IsNonDecreasingBy n xs
  rising-from_pairs xs pairs i j d le within =
      elim (cases_lt i j) [
        | inl less ↦ pairs i j d less within
        | inr other ↦ let same : i ≡ j = omega (arith, le, other) in rw same (omega arith)
      ]

  pub rises_from : (least : ℕ) (xs : List X) → ((i : ℕ) (d : X) → i < length xs → least ≤ n (get_or xs i d)) → IsNonDecreasingBy n xs → RisesFrom least xs
  rises_from least [] low rising = tt
  rises_from least (x ∷ xs) low rising =
      (low 0 x (omega arith), rises_from (n x) xs (λ i d h. rising 0 (suc i) d (omega arith) (omega (arith, h))) (λ i j d le h. rising (suc i) (suc j) d (omega (arith, le)) (omega (arith, h))))

  at_least : (least : ℕ) (xs : List X) → RisesFrom least xs → (i : ℕ) (d : X) → i < length xs → least ≤ n (get_or xs i d)
  at_least least [] r i d h = absurd (omega (arith, h))
  at_least least (x ∷ xs) r zero d h = r.0
  at_least least (x ∷ xs) r (suc i) d h = let rest = at_least (n x) xs r.1 i d (omega (arith, h)) in omega (arith, r.0, rest)

  pub rising-from_rises : (least : ℕ) (xs : List X) → RisesFrom least xs → IsNonDecreasingBy n xs
  rising-from_rises least [] r i j d le h = absurd (omega (arith, h))
  rising-from_rises least (x ∷ xs) r zero zero d le h = omega arith
  rising-from_rises least (x ∷ xs) r zero (suc j) d le h = at_least (n x) xs r.1 j d (omega (arith, h))
  rising-from_rises least (x ∷ xs) r (suc i) zero d le h = absurd (omega (arith, le))
  rising-from_rises least (x ∷ xs) r (suc i) (suc j) d le h = rising-from_rises (n x) xs r.1 i j d (omega (arith, le)) (omega (arith, h))
