-- Whether one way alone is there.
use Rattle.std.proofs.Common.{◌≡◌, ◌+◌, ◌<◌, ◌≤◌, ℕ, zero, suc, Bool, true, false, if◌then◌else◌, List, [], ◌∷◌, length, Option, Some, None, slice_get, refl, ap, sym, ◌∙◌, inl, inr, arith}
use Rattle.program_points.specs.paths.Step.{only, no_way}
use Rattle.pending_returns.proofs.levels_lemmas.Searching.{before-or-now}
use Rattle.pending_returns.proofs.faults_lemmas.Standing.{get-below}
use Rattle.overlap_trail.specs.finding.Search.{is_there}

-- of the first ways none is there, or one alone
abbrev pub AloneSoFar : List (Option ℕ) → ℕ → Bool → Type 0
AloneSoFar ways index false = (at to : ℕ) → at < index → slice_get ways at ≡ Some (Some to) → ⊥
AloneSoFar ways index true = (first : ℕ) × (to : ℕ) × (first < index) × (slice_get ways first ≡ Some (Some to)) × ((at other : ℕ) → at < index → slice_get ways at ≡ Some (Some other) → at ≡ first)

none-there : (ways : List (Option ℕ)) → ((at to : ℕ) → slice_get ways at ≡ Some (Some to) → ⊥) → no_way ways ≡ true
none-there [] none = refl
none-there (None ∷ ways) none = none-there ways (λ at to e. none (suc at) to e)
none-there (Some way ∷ ways) none = absurd (none 0 way refl)

one-there : (ways : List (Option ℕ)) (at to : ℕ) → slice_get ways at ≡ Some (Some to) → no_way ways ≡ false
one-there [] at to e = absurd (let k : ⊥ = cc in k)
one-there (None ∷ ways) zero to e = absurd (let k : ⊥ = cc in k)
one-there (None ∷ ways) (suc at) to e = one-there ways at to e
one-there (Some way ∷ ways) at to e = refl

only-none : (ways : List (Option ℕ)) → ((at to : ℕ) → slice_get ways at ≡ Some (Some to) → ⊥) → only ways ≡ None
only-none [] none = refl
only-none (None ∷ ways) none = only-none ways (λ at to e. none (suc at) to e)
only-none (Some way ∷ ways) none = absurd (none 0 way refl)

only-one : (ways : List (Option ℕ)) (first to : ℕ) → slice_get ways first ≡ Some (Some to) → ((at other : ℕ) → slice_get ways at ≡ Some (Some other) → at ≡ first) → is_there (only ways) ≡ true
only-one [] first to e alone = absurd (let k : ⊥ = cc in k)
only-one (None ∷ ways) zero to e alone = absurd (let k : ⊥ = cc in k)
only-one (None ∷ ways) (suc first) to e alone = only-one ways first to e (λ at other f. (let same : suc at ≡ suc first = alone (suc at) other f in let k : at ≡ first = cc in k))
only-one (Some way ∷ ways) first to e alone =
    let zero_is : 0 ≡ first = alone 0 way refl in
    ap (λ b. is_there (if b then Some way else None)) (none-there ways (λ at other f. (let same : suc at ≡ first = alone (suc at) other f in let both : suc at ≡ 0 = same ∙ sym zero_is in let k : ⊥ = cc in k)))

only-two : (ways : List (Option ℕ)) (first second to other : ℕ) → first < second → slice_get ways first ≡ Some (Some to) → slice_get ways second ≡ Some (Some other) → only ways ≡ None
only-two [] first second to other lt e f = absurd (let k : ⊥ = cc in k)
only-two (None ∷ ways) zero second to other lt e f = absurd (let k : ⊥ = cc in k)
only-two (None ∷ ways) (suc first) zero to other lt e f = absurd (omega (arith, lt))
only-two (None ∷ ways) (suc first) (suc second) to other lt e f = only-two ways first second to other (omega (arith, lt)) e f
only-two (Some way ∷ ways) first zero to other lt e f = absurd (omega (arith, lt))
only-two (Some way ∷ ways) first (suc second) to other lt e f = ap (λ b. if b then Some way else None) (one-there ways second other f)

pub alone-none : (ways : List (Option ℕ)) → AloneSoFar ways 0 false
alone-none ways = λ at to lt e. absurd (omega arith)

pub alone-skip : (ways : List (Option ℕ)) (index : ℕ) (found : Bool) → slice_get ways index ≡ Some None → AloneSoFar ways index found → AloneSoFar ways (index + 1) found
alone-skip ways index false here so_far = λ at to lt e. elim (before-or-now at index lt) [
  | inl less ↦ so_far at to less e
  | inr now ↦ (let both : Some None ≡ Some (Some to) = sym here ∙ ap (λ (n : ℕ). slice_get ways n) (sym now) ∙ e in let k : ⊥ = cc in k)
]
alone-skip ways index true here so_far = (
  so_far.0,
  so_far.1,
  (let lt = so_far.2 in omega (arith, lt)),
  so_far.3,
  λ at other lt e. elim (before-or-now at index lt) [
    | inl less ↦ so_far.4 at other less e
    | inr now ↦ absurd (let both : Some None ≡ Some (Some other) = sym here ∙ ap (λ (n : ℕ). slice_get ways n) (sym now) ∙ e in let k : ⊥ = cc in k)
  ],
)

pub alone-first : (ways : List (Option ℕ)) (index to : ℕ) → slice_get ways index ≡ Some (Some to) → AloneSoFar ways index false → AloneSoFar ways (index + 1) true
alone-first ways index to here so_far = (
  index,
  to,
  omega arith,
  here,
  λ at other lt e. elim (before-or-now at index lt) [
    | inl less ↦ absurd (so_far at other less e)
    | inr now ↦ now
  ],
)

pub alone-second : (ways : List (Option ℕ)) (index to : ℕ) → slice_get ways index ≡ Some (Some to) → AloneSoFar ways index true → false ≡ is_there (only ways)
alone-second ways index to here so_far = ap (λ (o : Option ℕ). is_there o) (sym (only-two ways so_far.0 index so_far.1 to so_far.2 so_far.3 here))

pub alone-all : (ways : List (Option ℕ)) (index : ℕ) (found : Bool) → length ways ≤ index → AloneSoFar ways index found → found ≡ is_there (only ways)
alone-all ways index false le so_far = ap (λ (o : Option ℕ). is_there o) (sym (only-none ways (λ at to e. so_far at to (let less : at < length ways = get-below ways at (Some to) e in omega (arith, less, le)) e)))
alone-all ways index true le so_far = sym (only-one ways so_far.0 so_far.1 so_far.3 (λ at other e. so_far.4 at other (let less : at < length ways = get-below ways at (Some other) e in omega (arith, less, le)) e))

pub there-is : (way : Option ℕ) → true ≡ is_there way → (to : ℕ) × (way ≡ Some to)
there-is None e = absurd (let k : ⊥ = cc in k)
there-is (Some to) e = (to, refl)

pub not-there : (way : Option ℕ) → false ≡ is_there way → way ≡ None
not-there None e = refl
not-there (Some to) e = absurd (let k : ⊥ = cc in k)
