-- How many ranges a program names is one number.
use Rattle.std.proofs.Common.{◌≡◌, ◌<◌, ◌==◌, ◌&&◌, ◌||◌, nat_lt, eqb-true, ltb-true, ℕ, zero, suc, Bool, true, false, List, [], ◌∷◌, length, Option, Some, None, slice_get, refl, ap, sym, ◌∙◌, ◌⊎◌, inl, inr, arith}
use Rattle.cob_base.specs.declared.limit.Limit.{Limit}
use Rattle.cob_tree.specs.declared.program.Program.{Program}
use Rattle.cob_tree.specs.declared.program.Range.{Range}
use Rattle.program_points.specs.perform_ranges.Named.{is_before, pair_before, exit_before, Has, AreRangesOf}
use Rattle.program_points.proofs.perform_ranges_lemmas.Ordered.{before-far}
use Rattle.pending_returns.specs.Summary.{NamesSoMany, IsWithin, limit_at}
use Rattle.restructure_core.specs.Flow.{PassesRanges}

-- no range is before itself, nor are two before each other

or-true : (a b : Bool) → (a || b) ≡ true → (a ≡ true) ⊎ (b ≡ true)
or-true true b e = inl refl
or-true false b e = inr e

and-true : (a b : Bool) → (a && b) ≡ true → (a ≡ true) × (b ≡ true)
and-true true b e = (refl, e)
and-true false b e = absurd (let k : ⊥ = cc in k)

pair-is : (entry exit later_entry later_exit : ℕ) → pair_before entry exit later_entry later_exit ≡ true → (entry < later_entry) ⊎ ((entry ≡ later_entry) × (exit < later_exit))
pair-is entry exit later_entry later_exit e = elim (or-true (nat_lt entry later_entry) (entry == later_entry && nat_lt exit later_exit) e) [
  | inl less ↦ inl (ltb-true entry later_entry less)
  | inr both ↦ (let b = and-true (entry == later_entry) (nat_lt exit later_exit) both in inr (eqb-true entry later_entry b.0, ltb-true exit later_exit b.1))
]

exits-apart : (e1 : ℕ) (x1 : Option ℕ) (e2 : ℕ) (x2 : Option ℕ) → exit_before e1 x1 e2 x2 ≡ true → exit_before e2 x2 e1 x1 ≡ true → ⊥
exits-apart e1 x1 e2 None a b = (let k : ⊥ = cc in k)
exits-apart e1 None e2 (Some y) a b = (let k : ⊥ = cc in k)
exits-apart e1 (Some x) e2 (Some y) a b = elim (pair-is e1 x e2 y a) [
  | inl first ↦ elim (pair-is e2 y e1 x b) [ inl second ↦ omega (arith, first, second) | inr second ↦ omega (arith, first, second.0) ]
  | inr first ↦ elim (pair-is e2 y e1 x b) [ inl second ↦ omega (arith, first.0, second) | inr second ↦ omega (arith, first.1, second.1) ]
]

apart : (range other : Range) → is_before range other ≡ true → is_before other range ≡ true → ⊥
apart range other a b = exits-apart range.entry range.exit other.entry other.exit a b

-- Lists in this order that have the same ranges are the same.

abbrev Rising : List Range → Type 0
Rising ranges = (number : ℕ) (range next : Range) → slice_get ranges number ≡ Some range → slice_get ranges (suc number) ≡ Some next → is_before range next ≡ true

rising-tail : (x : Range) (xs : List Range) → Rising (x ∷ xs) → Rising xs
rising-tail x xs rising = λ number range next here there. rising (suc number) range next here there

head-before : (x : Range) (xs : List Range) → Rising (x ∷ xs) → (number : ℕ) (other : Range) → slice_get xs number ≡ Some other → is_before x other ≡ true
head-before x xs rising number other there = before-far (x ∷ xs) rising 0 (suc number) x other (omega arith) refl there

none-has : (range : Range) → Has [] range → ⊥
none-has range h = (let e = h.1 in let k : ⊥ = cc in k)

-- what a list has is its head, or behind it
has-either : (x : Range) (xs : List Range) (range : Range) (number : ℕ) → slice_get (x ∷ xs) number ≡ Some range → (range ≡ x) ⊎ Has xs range
has-either x xs range zero e = inl (let k : range ≡ x = cc in k)
has-either x xs range (suc number) e = inr (number, e)

heads-same : (x : Range) (xs : List Range) (y : Range) (ys : List Range) → Rising (x ∷ xs) → Rising (y ∷ ys) → Has (y ∷ ys) x → Has (x ∷ xs) y → x ≡ y
heads-same x xs y ys rx ry hx hy = elim (has-either y ys x hx.0 hx.1) [
  | inl same ↦ same
  | inr later ↦ elim (has-either x xs y hy.0 hy.1) [
    | inl same ↦ sym same
    | inr other ↦ absurd (apart x y (head-before x xs rx other.0 y other.1) (head-before y ys ry later.0 x later.1))
  ]
]

-- what stands behind one head stands behind the other
tail-has : (x : Range) (xs : List Range) (y : Range) (ys : List Range) → x ≡ y → Rising (x ∷ xs) → (range : Range) → Has xs range → Has (y ∷ ys) range → Has ys range
tail-has x xs y ys same rx range h both = elim (has-either y ys range both.0 both.1) [
  | inl head ↦
      let before : is_before x x ≡ true = ap (λ (r : Range). is_before x r) (same ∙ sym head) ∙ head-before x xs rx h.0 range h.1 in
      absurd (apart x x before before)
  | inr later ↦ later
]

one-list : (xs ys : List Range) → Rising xs → Rising ys → ((range : Range) → Has xs range → Has ys range) → ((range : Range) → Has ys range → Has xs range) → xs ≡ ys
one-list [] [] rx ry to from = refl
one-list [] (y ∷ ys) rx ry to from = absurd (none-has y (from y (0, refl)))
one-list (x ∷ xs) [] rx ry to from = absurd (none-has x (to x (0, refl)))
one-list (x ∷ xs) (y ∷ ys) rx ry to from =
    let same : x ≡ y = heads-same x xs y ys rx ry (to x (0, refl)) (from y (0, refl)) in
    let tails : xs ≡ ys = one-list xs ys (rising-tail x xs rx) (rising-tail y ys ry)
    (λ range h. tail-has x xs y ys same rx range h (to range (suc h.0, h.1)))
    (λ range h. tail-has y ys x xs (sym same) ry range h (from range (suc h.0, h.1))) in
    ap (λ (r : Range). r ∷ xs) same ∙ ap (λ (rs : List Range). y ∷ rs) tails

has-too : (program : Program) (ranges others : List Range) → AreRangesOf program ranges → AreRangesOf program others → (range : Range) → Has ranges range → Has others range
has-too program ranges others are more range h = elim (are.only range h) [
  | inl main ↦ (0, more.main ∙ ap (λ (r : Range). Some r) (sym main))
  | inr named ↦ more.all range named
]

ranges-same : (program : Program) (ranges others : List Range) → AreRangesOf program ranges → AreRangesOf program others → ranges ≡ others
ranges-same program ranges others are more = one-list ranges others are.rising more.rising (has-too program ranges others are more) (has-too program others ranges more are)

counts-same : (program : Program) (counted other : ℕ) → NamesSoMany program counted → NamesSoMany program other → counted ≡ other
counts-same program counted other h g = sym h.2 ∙ ap (λ (rs : List Range). length rs) (ranges-same program h.0 g.0 h.1 g.1) ∙ g.2

-- the limit is passed by one number, or not passed
pub limits-same : (program : Program) (one other : Limit) → PassesRanges program one → PassesRanges program other → one ≡ other
limits-same program one other h g = h.3 ∙ ap limit_at (counts-same program h.0 g.0 h.1 g.1) ∙ sym g.3

pub within-past : (program : Program) (limit : Limit) → IsWithin program → PassesRanges program limit → ⊥
within-past program limit within past =
    let same : within.0 ≡ past.0 = counts-same program within.0 past.0 within.1 past.1 in
    omega (arith, same, within.2, past.2)
