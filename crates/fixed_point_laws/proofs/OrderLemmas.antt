-- The order of numbers each of which calls only larger ones: as they are.
use Rattle.std.proofs.Common.{◌≡◌, ◌<◌, ◌≤◌, ◌+◌, ℕ, zero, suc, Bool, true, false, not, ◌&&◌, ◌||◌, if◌then◌else◌, nat_eq, List, [], ◌∷◌, length, replicate, Some, slice_get, refl, ap, sym, ◌∙◌, subst, inl, inr, eqb-true, arith}
use Rattle.std.specs.Prelude.{slice_set, slice_index_or}
use Rattle.std.proofs.lemmas.Bool.Decides.{eqb_tells}
use Rattle.pending_returns.specs.levels.Reach.{Holds}
use Rattle.out_names.specs.Ordering.{calls_it, waits, is_ready, first_ready, order_from, order_of}

-- so many numbers from this one on
abbrev pub numbers_on : ℕ → ℕ → List ℕ
numbers_on from zero = []
numbers_on from (suc more) = from ∷ numbers_on (suc from) more

-- of so many the first ones stand
abbrev stands_to : ℕ → ℕ → List Bool
stands_to zero total = replicate total false
stands_to (suc k) zero = []
stands_to (suc k) (suc total) = true ∷ stands_to k total

called : (number : ℕ) (callees : List ℕ) → calls_it number callees ≡ true → Holds callees number
called number [] h = absurd (let k : ⊥ = cc in k)
called number (callee ∷ callees) h = (elim (nat_eq callee number) as (λ b. nat_eq callee number ≡ b → (b || calls_it number callees) ≡ true → Holds (callee ∷ callees) number) [
  | true ↦ λ s e. (0, ap (λ n. Some n) (eqb-true callee number s))
  | false ↦ λ s e. (let r = called number callees e in (suc r.0, r.1))
]) refl h

set-next : (k total : ℕ) → k < total → slice_set (stands_to k total) k true ≡ stands_to (suc k) total
set-next zero zero lt = absurd (omega (arith, lt))
set-next zero (suc total) lt = refl
set-next (suc k) zero lt = absurd (omega (arith, lt))
set-next (suc k) (suc total) lt = ap (λ fs. true ∷ fs) (set-next k total (omega (arith, lt)))

stands-below : (k total number : ℕ) → number < k → slice_index_or (stands_to k total) number true ≡ true
stands-below zero total number lt = absurd (omega (arith, lt))
stands-below (suc k) zero number lt = refl
stands-below (suc k) (suc total) zero lt = refl
stands-below (suc k) (suc total) (suc number) lt = stands-below k total number (omega (arith, lt))

none-stands : (total number : ℕ) → number < total → slice_index_or (replicate total false) number true ≡ false
none-stands zero number lt = absurd (omega (arith, lt))
none-stands (suc total) zero lt = refl
none-stands (suc total) (suc number) lt = none-stands total number (omega (arith, lt))

stands-not : (k total : ℕ) → k < total → slice_index_or (stands_to k total) k true ≡ false
stands-not zero total lt = none-stands total zero lt
stands-not (suc k) zero lt = absurd (omega (arith, lt))
stands-not (suc k) (suc total) lt = stands-not k total (omega (arith, lt))

off-above : (k total i : ℕ) → slice_get (stands_to k total) i ≡ Some false → k ≤ i
off-above zero total i e = omega arith
off-above (suc k) zero i e = absurd (let w : ⊥ = cc in w)
off-above (suc k) (suc total) zero e = absurd (let w : ⊥ = cc in w)
off-above (suc k) (suc total) (suc i) e = (let r = off-above k total i e in omega (arith, r))

or-both : (a b : Bool) → a ≡ false → b ≡ false → (a || b) ≡ false
or-both a b e f = ap (λ x. x || b) e ∙ f

waits-none : (calls : List (List ℕ)) (stands : List Bool) (number : ℕ) →
    ((i : ℕ) (callees : List ℕ) → slice_get calls i ≡ Some callees → slice_get stands i ≡ Some false → calls_it number callees ≡ false) →
    waits calls stands number ≡ false
waits-none [] stands number h = refl
waits-none (callees ∷ calls) [] number h = refl
waits-none (callees ∷ calls) (true ∷ others) number h =
    waits-none calls others number (λ i cs e f. h (suc i) cs e f)
waits-none (callees ∷ calls) (false ∷ others) number h =
    or-both (calls_it number callees) (waits calls others number) (h 0 callees refl refl)
    (waits-none calls others number (λ i cs e f. h (suc i) cs e f))

unless : (b : Bool) → (b ≡ true → ⊥) → b ≡ false
unless true h = absurd (h refl)
unless false h = refl

module _ (calls : List (List ℕ))
    (later : (number : ℕ) (callees : List ℕ) (to : ℕ) → slice_get calls number ≡ Some callees → Holds callees to → number < to) where
  abbrev total : ℕ
  total = length calls

  waits-not : (k : ℕ) → waits calls (stands_to k total) k ≡ false
  waits-not k =
      waits-none calls (stands_to k total) k (λ i callees e f.
      unless (calls_it k callees) (λ is.
      let below = later i callees k e (called k callees is) in
      let above = off-above k total i f in
      absurd (omega (arith, below, above))))

  ready : (k : ℕ) → k < total → is_ready calls (stands_to k total) k ≡ true
  ready k lt =
      ap (λ b. not b && not (waits calls (stands_to k total) k)) (stands-not k total lt)
      ∙ ap not (waits-not k)

  unready : (k number : ℕ) → number < k → is_ready calls (stands_to k total) number ≡ false
  unready k number lt =
      ap (λ b. not b && not (waits calls (stands_to k total) number)) (stands-below k total number lt)

  first : (k count from : ℕ) → k < total → from ≤ k → k < from + count → first_ready count calls (stands_to k total) from ≡ Some k
  first k zero from below le lt = absurd (omega (arith, le, lt))
  first k (suc count) from below le lt = elim (eqb_tells from k) [
    | inl t ↦
        ap (λ b. if b then Some from else first_ready count calls (stands_to k total) (suc from))
        (subst (λ (n : ℕ). is_ready calls (stands_to k total) n ≡ true) (sym t.1) (ready k below)) ∙ ap (λ n. Some n) t.1
    | inr t ↦
        let apart = t.1 in
        let less : from < k = next from k le apart in
        ap (λ b. if b then Some from else first_ready count calls (stands_to k total) (suc from)) (unready k from less)
        ∙ first k count (suc from) below (omega (arith, less)) (omega (arith, lt))
  ]
    where
      next : (from k : ℕ) → from ≤ k → (from ≡ k → ⊥) → from < k
      next zero zero le apart = absurd (apart refl)
      next zero (suc k) le apart = omega arith
      next (suc from) zero le apart = absurd (omega (arith, le))
      next (suc from) (suc k) le apart = (let r = next from k (omega (arith, le)) (λ e. apart (ap (λ (n : ℕ). suc n) e)) in omega (arith, r))

  laid : (more k : ℕ) → k + more ≡ total → order_from more calls (stands_to k total) (Some k) ≡ numbers_on k more
  laid zero k e = refl
  laid (suc zero) k e = refl
  laid (suc (suc more)) k e =
      let lt : k < total = omega (arith, e) in
      let lt2 : suc k < total = omega (arith, e) in
      ap (λ ns. k ∷ ns)
      (ap (λ s. order_from (suc more) calls s (first_ready (length calls) calls s 0)) (set-next k total lt)
      ∙ ap (λ o. order_from (suc more) calls (stands_to (suc k) total) o) (first (suc k) total 0 lt2 (omega arith) (omega (arith, lt2)))
      ∙ laid (suc more) (suc k) (omega (arith, e)))

  pub as-they-are : order_of calls ≡ numbers_on 0 (length calls)
  as-they-are = laid (length calls) 0 (omega arith)
