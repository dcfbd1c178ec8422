-- Lists that are changed one after the other.
use Rattle.std.proofs.Common.{◌≡◌, ◌<◌, ◌≤◌, ◌+◌, ℕ, zero, suc, List, [], ◌∷◌, ◌++◌, map, length, take, drop, get_or, set, refl, ap, sym, ◌∙◌, arith, add-one}

module _ {X : Type 0} (f : X → X) where
  abbrev pub changed_to : ℕ → List X → List X
  changed_to at xs = map f (take at xs) ++ drop at xs

  changed_one : (xs : List X) (at : ℕ) (d : X) → at < length xs → set (changed_to at xs) at (f (get_or xs at d)) ≡ changed_to (suc at) xs
  changed_one [] at d within = let no : ⊥ = omega (arith, within) in absurd no
  changed_one (x ∷ xs) zero d within = refl
  changed_one (x ∷ xs) (suc at) d within =
      let less : at < length xs = omega (arith, within) in
      ap (λ l. f x ∷ l) (changed_one xs at d less)

  -- one more
  pub changed_next : (xs : List X) (at : ℕ) (d : X) → at < length xs → set (changed_to at xs) at (f (get_or xs at d)) ≡ changed_to (at + 1) xs
  changed_next xs at d within = changed_one xs at d within ∙ ap (λ n. changed_to n xs) (sym (add-one at))

  -- all of them
  pub changed_all : (xs : List X) (at : ℕ) → length xs ≤ at → changed_to at xs ≡ map f xs
  changed_all [] zero most = refl
  changed_all [] (suc at) most = refl
  changed_all (x ∷ xs) zero most = let no : ⊥ = omega (arith, most) in absurd no
  changed_all (x ∷ xs) (suc at) most =
      let less : length xs ≤ at = omega (arith, most) in
      ap (λ l. f x ∷ l) (changed_all xs at less)
