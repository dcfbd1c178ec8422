-- Rising numbers.
use Rattle.std.proofs.Common.{◌≡◌, ◌<◌, ℕ, zero, suc, List, [], ◌∷◌, Some, slice_get, refl, ap, sym, ◌∙◌, ◌⊎◌, inl, inr, arith}
use Rattle.pending_returns.specs.levels.Reach.{Holds}
use Rattle.pending_returns.specs.Summary.{Rises}

some-in : (a b : ℕ) → Some a ≡ Some b → a ≡ b
some-in a b e = cc

none-held : (number : ℕ) → Holds [] number → ⊥
none-held number h = (let e = h.1 in let k : ⊥ = cc in k)

rises-tail : (x : ℕ) (xs : List ℕ) → Rises (x ∷ xs) → Rises xs
rises-tail x xs rising = λ at number next here there. rising (suc at) number next here there

-- what stands behind the first is more
more-behind : (x : ℕ) (xs : List ℕ) → Rises (x ∷ xs) → (at other : ℕ) →
    slice_get xs at ≡ Some other → x < other
more-behind x [] rising at other e = absurd (let k : ⊥ = cc in k)
more-behind x (y ∷ xs) rising zero other e =
    let same : y ≡ other = some-in y other e in
    let less : x < y = rising 0 x y refl refl in
    omega (arith, same, less)
more-behind x (y ∷ xs) rising (suc at) other e =
    let less : x < y = rising 0 x y refl refl in
    let further : y < other = more-behind y xs (rises-tail x (y ∷ xs) rising) at other e in
    omega (arith, less, further)

held-either : (x : ℕ) (xs : List ℕ) (number at : ℕ) → slice_get (x ∷ xs) at ≡ Some number →
    (number ≡ x) ⊎ Holds xs number
held-either x xs number zero e = inl (sym (some-in x number e))
held-either x xs number (suc at) e = inr (at, e)

firsts-same : (x : ℕ) (xs : List ℕ) (y : ℕ) (ys : List ℕ) → Rises (x ∷ xs) → Rises (y ∷ ys) →
    Holds (y ∷ ys) x → Holds (x ∷ xs) y → x ≡ y
firsts-same x xs y ys rx ry hx hy = elim (held-either y ys x hx.0 hx.1) [
  | inl same ↦ same
  | inr later ↦ elim (held-either x xs y hy.0 hy.1) [
    | inl same ↦ sym same
    | inr other ↦
        let less : x < y = more-behind x xs rx other.0 y other.1 in
        let more : y < x = more-behind y ys ry later.0 x later.1 in
        absurd (omega (arith, less, more))
  ]
]

tail-held : (x : ℕ) (xs : List ℕ) (y : ℕ) (ys : List ℕ) → x ≡ y → Rises (x ∷ xs) →
    (number : ℕ) → Holds xs number → Holds (y ∷ ys) number → Holds ys number
tail-held x xs y ys same rx number h both = elim (held-either y ys number both.0 both.1) [
  | inl first ↦
      let less : x < number = more-behind x xs rx h.0 number h.1 in
      absurd (omega (arith, less, same, first))
  | inr later ↦ later
]

pub one-rising : (xs ys : List ℕ) → Rises xs → Rises ys →
    ((number : ℕ) → Holds xs number → Holds ys number) →
    ((number : ℕ) → Holds ys number → Holds xs number) → xs ≡ ys
one-rising [] [] rx ry to from = refl
one-rising [] (y ∷ ys) rx ry to from = absurd (none-held y (from y (0, refl)))
one-rising (x ∷ xs) [] rx ry to from = absurd (none-held x (to x (0, refl)))
one-rising (x ∷ xs) (y ∷ ys) rx ry to from =
    let same : x ≡ y = firsts-same x xs y ys rx ry (to x (0, refl)) (from y (0, refl)) in
    let tails : xs ≡ ys = one-rising xs ys (rises-tail x xs rx) (rises-tail y ys ry)
    (λ number h. tail-held x xs y ys same rx number h (to number (suc h.0, h.1)))
    (λ number h. tail-held y ys x xs (sym same) ry number h (from number (suc h.0, h.1))) in
    ap (λ (n : ℕ). n ∷ xs) same ∙ ap (λ (ns : List ℕ). y ∷ ns) tails
