-- Whether a range stands in a list, and none twice.
use Rattle.std.proofs.Common.{◌≡◌, ◌+◌, ◌<◌, ◌≤◌, ℕ, zero, suc, List, [], ◌∷◌, length, drop, Some, slice_get, refl, ap, sym, ◌∙◌, subst, ◌⊎◌, inl, inr, arith, add-one}
use Rattle.cob_tree.specs.declared.program.Range.{Range}
use Rattle.program_points.specs.paths.Accepted.{IsIn, NoneTwice}

before-or-now : (number index : ℕ) → number < index + 1 → (number < index) ⊎ (number ≡ index)
before-or-now zero zero lt = inr refl
before-or-now zero (suc index) lt = inl (omega arith)
before-or-now (suc number) zero lt = absurd (omega arith)
before-or-now (suc number) (suc index) lt = elim (before-or-now number index (omega arith)) [ inl less ↦ inl (omega arith) | inr same ↦ inr (ap (λ (n : ℕ). suc n) same) ]

get-below : (xs : List Range) (at : ℕ) (x : Range) → slice_get xs at ≡ Some x → at < length xs
get-below [] at x e = absurd (let k : ⊥ = cc in k)
get-below (y ∷ xs) zero x e = omega arith
get-below (y ∷ xs) (suc at) x e = (let less : at < length xs = get-below xs at x e in omega arith)

pub in-at : (range : Range) (ranges : List Range) → IsIn range ranges → (at : ℕ) × (slice_get ranges at ≡ Some range)
in-at range [] h = absurd h
in-at range (other ∷ ranges) (inl same) = (0, ap (λ (r : Range). Some r) same)
in-at range (other ∷ ranges) (inr more) = (let found = in-at range ranges more in (suc found.0, found.1))

pub at-in : (range : Range) (ranges : List Range) (at : ℕ) → slice_get ranges at ≡ Some range → IsIn range ranges
at-in range [] at e = absurd (let k : ⊥ = cc in k)
at-in range (other ∷ ranges) zero e = inl (let k : other ≡ range = cc in k)
at-in range (other ∷ ranges) (suc at) e = inr (at-in range ranges at e)

-- none of the first of these is the range
abbrev pub NoneSame : Range → List Range → ℕ → Type 0
NoneSame range ranges index = (at : ℕ) → at < index → slice_get ranges at ≡ Some range → ⊥

pub none-more : (range : Range) (ranges : List Range) (index : ℕ) (other : Range) → slice_get ranges index ≡ Some other → (other ≡ range → ⊥) → NoneSame range ranges index → NoneSame range ranges (index + 1)
none-more range ranges index other here ne none = λ at lt e. elim (before-or-now at index lt) [
  | inl less ↦ none at less e
  | inr now ↦
      let both : Some other ≡ Some range = sym here ∙ ap (λ (n : ℕ). slice_get ranges n) (sym now) ∙ e in
      let same : other ≡ range = cc in
      ne same
]

pub none-all : (range : Range) (ranges : List Range) (index : ℕ) → length ranges ≤ index → NoneSame range ranges index → IsIn range ranges → ⊥
none-all range ranges index le none is =
    let found = in-at range ranges is in
    none found.0 (let less : found.0 < length ranges = get-below ranges found.0 range found.1 in omega (arith, less, le)) found.1

-- a range that stands once more further on
pub twice : (ranges : List Range) (number : ℕ) (range : Range) → slice_get ranges number ≡ Some range → IsIn range (drop (suc number) ranges) → NoneTwice ranges → ⊥
twice [] number range e is once = (let k : ⊥ = cc in k)
twice (other ∷ ranges) zero range e is once =
    let same : other ≡ range = cc in
    once.0 (subst (λ (r : Range). IsIn r ranges) (sym same) is)
twice (other ∷ ranges) (suc number) range e is once = twice ranges number range e is once.1

-- the first of these stand once, if the others do
abbrev pub OnceSoFar : List Range → ℕ → Type 0
OnceSoFar ranges index = NoneTwice (drop index ranges) → NoneTwice ranges

front : (ranges : List Range) (number : ℕ) (range : Range) → slice_get ranges number ≡ Some range → drop number ranges ≡ range ∷ drop (suc number) ranges
front [] number range e = absurd (let k : ⊥ = cc in k)
front (other ∷ ranges) zero range e = (let same : other ≡ range = cc in ap (λ (r : Range). r ∷ ranges) same)
front (other ∷ ranges) (suc number) range e = front ranges number range e

pub once-none : (ranges : List Range) → OnceSoFar ranges 0
once-none ranges = λ h. h

pub once-more : (ranges : List Range) (index : ℕ) (range : Range) → slice_get ranges index ≡ Some range → (IsIn range (drop (index + 1) ranges) → ⊥) → OnceSoFar ranges index → OnceSoFar ranges (index + 1)
once-more ranges index range here out so_far = λ rest.
    let up : index + 1 ≡ suc index = add-one index in
    let whole : NoneTwice (range ∷ drop (suc index) ranges) = (subst (λ (n : ℕ). IsIn range (drop n ranges) → ⊥) up out, subst (λ (n : ℕ). NoneTwice (drop n ranges)) up rest) in
    so_far (subst NoneTwice (sym (front ranges index range here)) whole)

none-left : (ranges : List Range) (index : ℕ) → length ranges ≤ index → NoneTwice (drop index ranges)
none-left [] zero le = tt
none-left [] (suc index) le = tt
none-left (range ∷ ranges) zero le = absurd (omega arith)
none-left (range ∷ ranges) (suc index) le = none-left ranges index (omega arith)

pub once-all : (ranges : List Range) (index : ℕ) → length ranges ≤ index → OnceSoFar ranges index → NoneTwice ranges
once-all ranges index le so_far = so_far (none-left ranges index le)
