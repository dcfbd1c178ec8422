-- From the mask of a load to the bytes that are of a kind.
use Rattle.std.proofs.Common.{◌≡◌, ℕ, ◌+◌, ◌%◌, ◌^◌, ◌<◌, ◌≤◌, Bool, true, false, not, List, [], ◌∷◌, map, length, get_or, replicate, Fits, w8, refl, sym, ap, ap₂, ◌∙◌, subst, arith, inl, inr}
use Rattle.std.specs.List.{prefix_len}
use Rattle.std.specs.Simd.Lanes.{chunk, zip2, mask_l, top}
use Rattle.std.proofs.lemmas.Bool.{agree_below, agree_below_at, not-true, not-false, cases_eq, eq-eqb, ne_eqb, cond-true, cond-false}
use Rattle.std.proofs.lemmas.Simd.{map-map, mask_l-mod, length-chunk, get_or-chunk, leading_from_mask_l, trailing_mask_l}
use Rattle.std.proofs.lemmas.List.{length-map}
use Rattle.std.proofs.lemmas.List.Sums.{prefix_len-le-length, prefix_len_passes, prefix_len_stops}
use Rattle.cobol_lex.specs.Lanes.{IsRunIn, first_set}

zip2-map : (h : ℕ → ℕ → ℕ) (f g : ℕ → ℕ) (xs : List ℕ) → zip2 h (map f xs) (map g xs) ≡ map (λ x. h (f x) (g x)) xs
zip2-map h f g [] = refl
zip2-map h f g (x ∷ xs) = ap (λ r. h (f x) (g x) ∷ r) (zip2-map h f g xs)

-- an operation on two vectors that were computed lane by lane from v
pub joined : (h : ℕ → ℕ → ℕ) (f g : ℕ → ℕ) (v : List ℕ) {a b : List ℕ} → a ≡ map f v → b ≡ map g v → zip2 h a b ≡ map (λ x. h (f x) (g x)) v
joined h f g v p q = ap₂ (zip2 h) p q ∙ zip2-map h f g v

pub splat_is : (v : List ℕ) (n y : ℕ) → length v ≡ n → replicate n y ≡ map (λ _. y) v
splat_is [] n y e = ap (λ k. replicate k y) (sym e)
splat_is (x ∷ xs) n y e = ap (λ k. replicate k y) (sym e) ∙ ap (λ r. y ∷ r) (splat_is xs (length xs) y refl)

first_is : (p : ℕ → Bool) (v : List ℕ) → length v ≡ 16 → first_set (mask_l (map p v)) ≡ prefix_len (λ x. not (p x)) v
first_is p v long =
    elim (cases_eq (mask_l (map p v)) 0) [
      | inl none ↦ cond-true _ _ _ (eq-eqb _ _ none) ∙ sym (leading_from_mask_l p v none ∙ long)
      | inr some ↦ cond-false _ _ _ (ne_eqb _ _ some) ∙ trailing_mask_l p 64 v (omega arith) (omega arith)
    ]

module _ (kind : ℕ → Bool) (bytes : List ℕ) (run : ℕ) (lanes : List ℕ) (room : 16 ≤ length bytes)
    (fits : (k : ℕ) → Fits w8 (get_or bytes k 0)) (found : run ≡ first_set (mask_l (map (top 7) lanes) % 2 ^ 64))
    (f : ℕ → ℕ) (computed : lanes ≡ map f (chunk 0 16 bytes)) where
  abbrev stops : ℕ → Bool
  stops x = top 7 (f x)

  long : length (chunk 0 16 bytes) ≡ 16
  long = length-chunk 0 16 bytes room

  counted : run ≡ prefix_len (λ x. not (stops x)) (chunk 0 16 bytes)
  counted =
      let v = chunk 0 16 bytes in
      let mask = ap (λ l. mask_l l % 2 ^ 64) (ap (map (top 7)) computed ∙ map-map (top 7) f v) ∙ mask_l-mod (map stops v) 64 (omega (arith, length-map v stops, long)) in
      found ∙ ap first_set mask ∙ first_is stops v long

  bound : run ≤ 16
  bound = omega (arith, counted, long, prefix_len-le-length (λ x. not (stops x)) (chunk 0 16 bytes))

  lane : (k : ℕ) → k < 16 → get_or (chunk 0 16 bytes) k 0 ≡ get_or bytes k 0
  lane k near =
      let same : 0 + k ≡ k = omega arith in
      get_or-chunk 0 16 bytes k 0 near ∙ ap (λ j. get_or bytes j 0) same

  goes_on : (k : ℕ) → k < run → stops (get_or bytes k 0) ≡ false
  goes_on k near =
      subst (λ x. stops x ≡ false) (lane k (omega (arith, bound))) (not-true _ (prefix_len_passes (λ x. not (stops x)) (chunk 0 16 bytes) k 0 (omega (arith, counted))))

  -- a lane stops just where a byte isn't of the kind
  pub run_in : agree_below stops (λ x. not (kind x)) 256 ≡ true → IsRunIn kind bytes run
  run_in all = record {
    within = bound;
    each = λ k near. not-false _ (sym (agree_below_at stops (λ x. not (kind x)) 256 (get_or bytes k 0) all (fits k).fits) ∙ goes_on k near);
    ends = λ short.
        let at = ap (λ j. get_or (chunk 0 16 bytes) j 0) (sym counted) ∙ lane run short in
        let set = subst (λ x. stops x ≡ true) at (not-false _ (prefix_len_stops (λ x. not (stops x)) (chunk 0 16 bytes) 0 (omega (arith, counted, long)))) in
        not-true _ (sym (agree_below_at stops (λ x. not (kind x)) 256 (get_or bytes run 0) all (fits run).fits) ∙ set);
  }
