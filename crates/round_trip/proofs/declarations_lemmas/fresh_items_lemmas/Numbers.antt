-- Numbers of one stem grow no faster than they are given and taken.
use Rattle.std.proofs.Common.{◌≡◌, ℕ, zero, suc, ◌+◌, ◌-◌, ◌<◌, ◌≤◌, ◌^◌, true, false, if◌then◌else◌, List, length, refl, ap, sym, ◌∙◌, arith}
use native.Mathlib.Numerals.{unary_clauses}
use Rattle.out_names.specs.FreshWords.{is_taken, fresh_number}
use Rattle.out_names.proofs.FreshLemmas.{taken_below, few_taken, fresh_is_fresh, fresh_is_near}

-- where all of so many numbers are taken, so many more are taken below
taken-between : (words : List (List ℕ)) (stem : List ℕ) (from more : ℕ) → ((k : ℕ) → from ≤ k → k < from + more → is_taken words stem k ≡ true) → taken_below words stem (from + more) ≡ taken_below words stem from + more
taken-between words stem from zero all = simp unary_clauses refl
taken-between words stem from (suc more) all =
    let here : is_taken words stem (from + more) ≡ true = all (from + more) (omega arith) (omega arith) in
    let earlier = taken-between words stem from more (λ k le lt. all k le (omega (arith, lt))) in
    let step : taken_below words stem (suc (from + more)) ≡ suc (taken_below words stem (from + more)) =
    ap (λ b. (if b then suc (taken_below words stem (from + more)) else taken_below words stem (from + more))) here in
    let e : from + suc more ≡ suc (from + more) = omega arith in
    let f : suc (taken_below words stem from + more) ≡ taken_below words stem from + suc more = omega arith in
    ap (taken_below words stem) e ∙ step ∙ ap suc earlier ∙ f

-- so many were given, and from this number on the next one is looked for
pub record IsBehind (words : List (List ℕ)) (stem : List ℕ) (given from : ℕ) : Type 0 where
  pub counted : from ≤ given + 1 + taken_below words stem from
  pub small : from ≤ given + 1 + length words

-- the next one
pub record IsNext (words : List (List ℕ)) (stem : List ℕ) (given from number : ℕ) : Type 0 where
  pub least : from ≤ number
  pub free : is_taken words stem number ≡ false
  pub small : number < 2 ^ 59
  pub behind : IsBehind words stem (given + 1) (suc number)

pub next-is : (words : List (List ℕ)) (stem : List ℕ) (given from : ℕ) → length words + given < 2 ^ 58 → IsBehind words stem given from → IsNext words stem given from (fresh_number words stem from)
next-is words stem given from below h =
    let number = fresh_number words stem from in
    let fresh = fresh_is_fresh words stem from (omega (arith, below, h.small)) in
    let near = fresh_is_near words stem from in
    let e : from + (number - from) ≡ number = omega (arith, fresh.least) in
    let count = taken-between words stem from (number - from) (λ k le lt. fresh.passed k le (omega (arith, e, lt))) in
    let upto : taken_below words stem number ≡ taken_below words stem from + (number - from) = ap (taken_below words stem) (sym e) ∙ count in
    let past : taken_below words stem (suc number) ≡ taken_below words stem number =
    ap (λ b. if b then suc (taken_below words stem number) else taken_below words stem number) fresh.free in
    let few = few_taken words stem number (omega (arith, below, near, h.small)) in
    record {
      least = fresh.least;
      free = fresh.free;
      small = omega (arith, below, h.counted, upto, few, fresh.least);
      behind = record {
        counted = omega (arith, h.counted, upto, past, fresh.least);
        small = omega (arith, h.counted, upto, few, fresh.least);
      };
    }

-- more may have been given of others
pub behind-more : (words : List (List ℕ)) (stem : List ℕ) (given from : ℕ) → IsBehind words stem given from → IsBehind words stem (given + 1) from
behind-more words stem given from h = record { counted = omega (arith, h.counted); small = omega (arith, h.small) }

pub behind-first : (words : List (List ℕ)) (stem : List ℕ) → IsBehind words stem 0 1
behind-first words stem = record { counted = omega arith; small = omega arith }
