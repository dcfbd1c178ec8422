-- The lists with which numbering begins and ends.
use Rattle.std.proofs.Common.{◌≡◌, ◌+◌, ◌<◌, ◌≤◌, ℕ, zero, suc, List, [], ◌∷◌, ◌++◌, length, Some, slice_get, refl, ap, sym, ◌∙◌, subst, ◌⊎◌, inl, inr, arith, length-append}
use Rattle.program_points.specs.table_building.Numbering.{Extends, Counts}

get-last : {A : Type 0} → (xs : List A) (x : A) → slice_get (xs ++ x ∷ []) (length xs) ≡ Some x
get-last [] x = refl
get-last (y ∷ xs) x = get-last xs x

get-front : {A : Type 0} → (xs : List A) (x : A) (at : ℕ) → at < length xs → slice_get (xs ++ x ∷ []) at ≡ slice_get xs at
get-front [] x at lt = absurd (omega arith)
get-front (y ∷ xs) x zero lt = refl
get-front (y ∷ xs) x (suc at) lt = get-front xs x at (omega arith)

pub before-or-now : (number index : ℕ) → number < index + 1 → (number < index) ⊎ (number ≡ index)
before-or-now zero zero lt = inr refl
before-or-now zero (suc index) lt = inl (omega arith)
before-or-now (suc number) zero lt = absurd (omega arith)
before-or-now (suc number) (suc index) lt = elim (before-or-now number index (omega arith)) [ inl less ↦ inl (omega arith) | inr same ↦ inr (ap (λ (n : ℕ). suc n) same) ]

-- from this number on, what stands there is made of its number
abbrev pub Holding : {A : Type 0} → (ℕ → A) → ℕ → ℕ → List A → Type 0
Holding {A} make from number xs = (k : ℕ) → k < number → slice_get xs (from + k) ≡ Some (make k)

pub holding-none : {A : Type 0} → (make : ℕ → A) (from : ℕ) (xs : List A) → Holding make from 0 xs
holding-none make from xs = λ k lt. absurd (omega arith)

pub holding-more : {A : Type 0} → (make : ℕ → A) (from number : ℕ) (xs more : List A) → length xs ≡ from + number → more ≡ xs ++ make number ∷ [] → Holding make from number xs → Holding make from (number + 1) more
holding-more {A} make from number xs more size is holding = subst (λ (ys : List A). Holding make from (number + 1) ys) (sym is) (λ k lt. elim (before-or-now k number lt) [
  | inl less ↦ get-front xs (make number) (from + k) (omega (arith, size, less)) ∙ holding k less
  | inr now ↦
      let here : from + k ≡ length xs = omega (arith, size, now) in
      ap (λ (n : ℕ). slice_get (xs ++ make number ∷ []) n) here ∙ get-last xs (make number) ∙ ap (λ (n : ℕ). Some (make n)) (sym now)
])

-- what stood there still does
pub holding-kept : {A : Type 0} → (make : ℕ → A) (from number : ℕ) (xs more : List A) (x : A) → from + number ≤ length xs → more ≡ xs ++ x ∷ [] → Holding make from number xs → Holding make from number more
holding-kept {A} make from number xs more x room is holding = subst (λ (ys : List A). Holding make from number ys) (sym is) (λ k lt. get-front xs x (from + k) (omega (arith, room, lt)) ∙ holding k lt)

pub one-more : {A : Type 0} → (xs more : List A) (x : A) (size : ℕ) → length xs ≡ size → more ≡ xs ++ x ∷ [] → length more ≡ size + 1
one-more {A} xs more x size is same = ap (λ (ys : List A). length ys) same ∙ length-append xs (x ∷ []) ∙ ap (λ (n : ℕ). n + 1) is

pub counts-none : (starts : List ℕ) → starts ≡ [] → Counts 0 starts
counts-none starts is = record { size = ap (λ (ns : List ℕ). length ns) is; each = λ number lt. absurd (omega arith) }

pub counts-more : (number : ℕ) (starts more : List ℕ) → more ≡ starts ++ number ∷ [] → Counts number starts → Counts (number + 1) more
counts-more number starts more is counts = record {
  size = one-more starts more number number counts.size is;
  each = λ k lt. elim (before-or-now k number lt) [
    | inl less ↦ ap (λ (ns : List ℕ). slice_get ns k) is ∙ get-front starts number k (omega (arith, counts.size, less)) ∙ counts.each k less
    | inr now ↦
        let here : k ≡ length starts = omega (arith, counts.size, now) in
        ap (λ (ns : List ℕ). slice_get ns k) is ∙ ap (λ (n : ℕ). slice_get (starts ++ number ∷ []) n) here ∙ get-last starts number ∙ ap (λ (n : ℕ). Some n) (sym now)
  ];
}

pub extends-none : (owners : List ℕ) (until number : ℕ) → until ≡ length owners → Extends owners owners until number
extends-none owners until number is = record { size = sym is; kept = λ k lt. refl; more = λ k le lt. absurd (omega (arith, is)) }

pub extends-more : (owners new more : List ℕ) (until number : ℕ) → length owners ≤ until → more ≡ new ++ number ∷ [] → Extends owners new until number → Extends owners more (until + 1) number
extends-more owners new more until number le is extends = record {
  size = one-more new more number until extends.size is;
  kept = λ k lt. ap (λ (ns : List ℕ). slice_get ns k) is ∙ get-front new number k (omega (arith, extends.size, le, lt)) ∙ extends.kept k lt;
  more = λ k from lt. elim (before-or-now k until lt) [
    | inl less ↦ ap (λ (ns : List ℕ). slice_get ns k) is ∙ get-front new number k (omega (arith, extends.size, less)) ∙ extends.more k from less
    | inr now ↦
        let here : k ≡ length new = omega (arith, extends.size, now) in
        ap (λ (ns : List ℕ). slice_get ns k) is ∙ ap (λ (n : ℕ). slice_get (new ++ number ∷ []) n) here ∙ get-last new number
  ];
}
