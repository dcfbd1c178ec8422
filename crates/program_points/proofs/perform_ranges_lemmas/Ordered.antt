-- Ranges in their order, one after the other.
use Rattle.std.proofs.Common.{◌≡◌, ◌==◌, ◌&&◌, ◌||◌, nat_lt, eqb-true, eq-eqb, ltb-true, lt-ltb, ◌+◌, ◌<◌, ◌≤◌, ℕ, zero, suc, Bool, true, false, List, [], ◌∷◌, ◌++◌, length, get_or, Option, Some, None, slice_get, length-append, refl, ap, sym, ◌∙◌, subst, ◌⊎◌, inl, inr, arith, All}
use Rattle.std.specs.List.Sorted.{IsPermutation}
use Rattle.std.proofs.lemmas.Option.{slice_get-get_or}
use Rattle.std.proofs.lemmas.List.Sorted.{All-permutation, IsPermutation-sym}
use Rattle.cob_tree.specs.declared.program.Range.{Range}
use Rattle.program_points.specs.perform_ranges.Named.{is_before, pair_before, exit_before, main_range, Has, IsBehind, IsRisingOf}

-- the ranges so far: main, and those of the list up to this number
pub record IsRisingSoFar (list : List Range) (at : ℕ) (ranges : List Range) (last : Range) : Type 0 where
  pub main : slice_get ranges 0 ≡ Some main_range
  pub front : List Range
  pub ends : ranges ≡ front ++ last ∷ []
  pub rising : (number : ℕ) (range next : Range) → slice_get ranges number ≡ Some range → slice_get ranges (suc number) ≡ Some next → is_before range next ≡ true
  pub all : (number : ℕ) (range : Range) → number < at → slice_get list number ≡ Some range → Has ranges range
  pub only : (range : Range) → Has ranges range → (range ≡ main_range) ⊎ Has list range

get-last : (xs : List Range) (x : Range) → slice_get (xs ++ x ∷ []) (length xs) ≡ Some x
get-last [] x = refl
get-last (y ∷ xs) x = get-last xs x

get-front : (xs : List Range) (x : Range) (number : ℕ) (range : Range) → slice_get xs number ≡ Some range → slice_get (xs ++ x ∷ []) number ≡ Some range
get-front [] x number range e = absurd (let k : ⊥ = cc in k)
get-front (y ∷ xs) x zero range e = e
get-front (y ∷ xs) x (suc number) range e = get-front xs x number range e

-- what stands in a longer list stood there, or is its last
get-back : (xs : List Range) (x : Range) (number : ℕ) (range : Range) → slice_get (xs ++ x ∷ []) number ≡ Some range → (slice_get xs number ≡ Some range) ⊎ ((number ≡ length xs) × (range ≡ x))
get-back [] x zero range e = inr (refl, let k : range ≡ x = cc in k)
get-back [] x (suc number) range e = absurd (let k : ⊥ = cc in k)
get-back (y ∷ xs) x zero range e = inl e
get-back (y ∷ xs) x (suc number) range e = elim (get-back xs x number range e) [ inl there ↦ inl there | inr last ↦ inr (ap (λ (n : ℕ). suc n) last.0, last.1) ]

pub get-below : (xs : List Range) (number : ℕ) (range : Range) → slice_get xs number ≡ Some range → number < length xs
get-below [] number range e = absurd (let k : ⊥ = cc in k)
get-below (y ∷ xs) zero range e = omega arith
get-below (y ∷ xs) (suc number) range e = (let less : number < length xs = get-below xs number range e in omega arith)

alone : (number : ℕ) (next : Range) → slice_get (main_range ∷ []) (suc number) ≡ Some next → ⊥
alone number next e = (let k : ⊥ = cc in k)

first : (number : ℕ) (range : Range) → slice_get (main_range ∷ []) number ≡ Some range → range ≡ main_range
first zero range e = (let k : range ≡ main_range = cc in k)
first (suc number) range e = absurd (let k : ⊥ = cc in k)

pub rising-begins : (list ranges : List Range) → ranges ≡ main_range ∷ [] → IsRisingSoFar list 0 ranges main_range
rising-begins list ranges is = subst (λ (rs : List Range). IsRisingSoFar list 0 rs main_range) (sym is) (record {
  main = refl;
  front = [];
  ends = refl;
  rising = λ number range next here there. absurd (alone number next there);
  all = λ number range less there. absurd (omega arith);
  only = λ range has. inl (first has.0 range has.1);
})

before-or-now : (number index : ℕ) → number < index + 1 → (number < index) ⊎ (number ≡ index)
before-or-now zero zero lt = inr refl
before-or-now zero (suc index) lt = inl (omega arith)
before-or-now (suc number) zero lt = absurd (omega arith)
before-or-now (suc number) (suc index) lt = elim (before-or-now number index (omega arith)) [ inl less ↦ inl (omega arith) | inr same ↦ inr (ap (λ (n : ℕ). suc n) same) ]

-- the range is the last one once more
pub rising-same : (list : List Range) (at : ℕ) (ranges : List Range) (last range : Range) → slice_get list at ≡ Some range → range ≡ last → IsRisingSoFar list at ranges last → IsRisingSoFar list (at + 1) ranges last
rising-same list at ranges last range here same so_far = record {
  main = so_far.main;
  front = so_far.front;
  ends = so_far.ends;
  rising = so_far.rising;
  all = λ number other less there. elim (before-or-now number at less) [
    | inl before ↦ so_far.all number other before there
    | inr now ↦
        let both : Some other ≡ Some range = sym there ∙ ap (λ (n : ℕ). slice_get list n) now ∙ here in
        let one : other ≡ range = cc in
        (length so_far.front, ap (λ (rs : List Range). slice_get rs (length so_far.front)) so_far.ends ∙ get-last so_far.front last ∙ ap (λ (r : Range). Some r) (sym (one ∙ same)))
  ];
  only = so_far.only;
}

-- it is a further one
pub rising-more : (list : List Range) (at : ℕ) (ranges more : List Range) (last range : Range) → slice_get list at ≡ Some range → is_before last range ≡ true → more ≡ ranges ++ range ∷ [] → IsRisingSoFar list at ranges last → IsRisingSoFar list (at + 1) more range
rising-more list at ranges more last range here before is so_far = subst (λ (rs : List Range). IsRisingSoFar list (at + 1) rs range) (sym is) (record {
  main = get-front ranges range 0 main_range so_far.main;
  front = ranges;
  ends = refl;
  rising = λ number one next at_one at_next. elim (get-back ranges range (suc number) next at_next) [
    | inl old ↦ elim (get-back ranges range number one at_one) [
      | inl older ↦ so_far.rising number one next older old
      | inr newer ↦ absurd (let less : suc number < length ranges = get-below ranges (suc number) next old in omega (arith, newer.0, less))
    ]
    | inr new ↦ elim (get-back ranges range number one at_one) [
      | inl older ↦
          let long : length ranges ≡ length so_far.front + 1 = ap (λ (rs : List Range). length rs) so_far.ends ∙ length-append so_far.front (last ∷ []) in
          let where_it_is : number ≡ length so_far.front = omega (arith, long, new.0) in
          let both : Some one ≡ Some last = sym older ∙ ap (λ (n : ℕ). slice_get ranges n) where_it_is ∙ ap (λ (rs : List Range). slice_get rs (length so_far.front)) so_far.ends ∙ get-last so_far.front last in
          let same : one ≡ last = cc in
          ap (λ (r : Range). is_before r next) same ∙ ap (λ (r : Range). is_before last r) new.1 ∙ before
      | inr newer ↦ absurd (omega (arith, newer.0, new.0))
    ]
  ];
  all = λ number other less there. elim (before-or-now number at less) [
    | inl earlier ↦ (let has = so_far.all number other earlier there in (has.0, get-front ranges range has.0 other has.1))
    | inr now ↦
        let both : Some other ≡ Some range = sym there ∙ ap (λ (n : ℕ). slice_get list n) now ∙ here in
        let one : other ≡ range = cc in
        (length ranges, get-last ranges range ∙ ap (λ (r : Range). Some r) (sym one))
  ];
  only = λ other has. elim (get-back ranges range has.0 other has.1) [
    | inl old ↦ so_far.only other (has.0, old)
    | inr new ↦ inr (at, here ∙ ap (λ (r : Range). Some r) (sym new.1))
  ];
})

pub rising-step : (list : List Range) (at : ℕ) (ranges more : List Range) (last range : Range) → slice_get list at ≡ Some range → IsBehind ranges more last range → IsRisingSoFar list at ranges last → IsRisingSoFar list (at + 1) more range
rising-step list at ranges more last range here (inl same) so_far =
    subst (λ (rs : List Range). IsRisingSoFar list (at + 1) rs range) (sym same.1) (subst (λ (r : Range). IsRisingSoFar list (at + 1) ranges r) (sym same.0) (rising-same list at ranges last range here same.0 so_far))
rising-step list at ranges more last range here (inr behind) so_far = rising-more list at ranges more last range here behind.0 behind.1 so_far

pub rising-ends : (list : List Range) (at : ℕ) (ranges : List Range) (last : Range) → length list ≤ at → IsRisingSoFar list at ranges last → IsRisingOf list ranges
rising-ends list at ranges last le so_far = record {
  main = so_far.main;
  rising = so_far.rising;
  all = λ range has. so_far.all has.0 range (let less : has.0 < length list = get-below list has.0 range has.1 in omega (arith, less)) has.1;
  only = so_far.only;
}

-- a list in another order has the same ranges

all-have : (list whole : List Range) → ((range : Range) → Has list range → Has whole range) → All (λ (range : Range). Has whole range) list
all-have list whole has = λ k d lt. has (get_or list k d) (k, slice_get-get_or list k d lt)

pub has-all : (P : Range → Type 0) (list : List Range) (number : ℕ) (range : Range) → All P list → slice_get list number ≡ Some range → P range
has-all P list number range all e =
    let lt : number < length list = get-below list number range e in
    let both : Some (get_or list number range) ≡ Some range = sym (slice_get-get_or list number range lt) ∙ e in
    let same : get_or list number range ≡ range = cc in
    subst P same (all number range lt)

-- a list that was put in order has the ranges that it had
pub rising-sorted : (found sorted list named ranges : List Range) → found ≡ named → IsPermutation found sorted → list ≡ sorted → IsRisingOf list ranges → IsRisingOf named ranges
rising-sorted found sorted list named ranges is moved same rising =
    let forth = All-permutation (λ (range : Range). Has found range) found sorted moved (all-have found found (λ range has. has)) in
    let back = All-permutation (λ (range : Range). Has sorted range) sorted found (IsPermutation-sym found sorted moved) (all-have sorted sorted (λ range has. has)) in
    let of_sorted : IsRisingOf sorted ranges = subst (λ (rs : List Range). IsRisingOf rs ranges) same rising in
    subst (λ (rs : List Range). IsRisingOf rs ranges) is (record {
      main = of_sorted.main;
      rising = of_sorted.rising;
      all = λ range has. of_sorted.all range (has-all (λ (r : Range). Has sorted r) found has.0 range back has.1);
      only = λ range has. elim (of_sorted.only range has) [ inl main ↦ inl main | inr there ↦ inr (has-all (λ (r : Range). Has found r) sorted there.0 range forth there.1) ];
    })

-- the order of ranges

or-true : (a b : Bool) → (a || b) ≡ true → (a ≡ true) ⊎ (b ≡ true)
or-true true b e = inl refl
or-true false b e = inr e

and-true : (a b : Bool) → (a && b) ≡ true → (a ≡ true) × (b ≡ true)
and-true true b e = (refl, e)
and-true false b e = absurd (let k : ⊥ = cc in k)

pair-is : (entry exit later_entry later_exit : ℕ) → pair_before entry exit later_entry later_exit ≡ true → (entry < later_entry) ⊎ ((entry ≡ later_entry) × (exit < later_exit))
pair-is entry exit later_entry later_exit e = elim (or-true (nat_lt entry later_entry) (entry == later_entry && nat_lt exit later_exit) e) [
  | inl less ↦ inl (ltb-true entry later_entry less)
  | inr both ↦ (let b = and-true (entry == later_entry) (nat_lt exit later_exit) both in inr (eqb-true entry later_entry b.0, ltb-true exit later_exit b.1))
]

pub is-pair-less : (entry exit later_entry later_exit : ℕ) → entry < later_entry → pair_before entry exit later_entry later_exit ≡ true
is-pair-less entry exit later_entry later_exit lt = ap (λ b. b || (entry == later_entry && nat_lt exit later_exit)) (lt-ltb entry later_entry lt)

or-last : (a : Bool) → (a || true) ≡ true
or-last true = refl
or-last false = refl

pub is-pair-same : (entry exit later_entry later_exit : ℕ) → entry ≡ later_entry → exit < later_exit → pair_before entry exit later_entry later_exit ≡ true
is-pair-same entry exit later_entry later_exit same lt =
    ap (λ b. nat_lt entry later_entry || (b && nat_lt exit later_exit)) (eq-eqb entry later_entry same) ∙ ap (λ b. nat_lt entry later_entry || b) (lt-ltb exit later_exit lt) ∙ or-last (nat_lt entry later_entry)

exit-through : (e1 : ℕ) (x1 : Option ℕ) (e2 : ℕ) (x2 : Option ℕ) (e3 : ℕ) (x3 : Option ℕ) → exit_before e1 x1 e2 x2 ≡ true → exit_before e2 x2 e3 x3 ≡ true → exit_before e1 x1 e3 x3 ≡ true
exit-through e1 x1 e2 x2 e3 None a b = absurd (let k : ⊥ = cc in k)
exit-through e1 x1 e2 None e3 (Some z) a b = absurd (let k : ⊥ = cc in k)
exit-through e1 None e2 (Some y) e3 (Some z) a b = refl
exit-through e1 (Some x) e2 (Some y) e3 (Some z) a b = elim (pair-is e1 x e2 y a) [
  | inl first ↦ elim (pair-is e2 y e3 z b) [ inl second ↦ is-pair-less e1 x e3 z (omega (arith, first, second)) | inr second ↦ is-pair-less e1 x e3 z (omega (arith, first, second.0)) ]
  | inr first ↦ elim (pair-is e2 y e3 z b) [
    | inl second ↦ is-pair-less e1 x e3 z (omega (arith, first.0, second))
    | inr second ↦ is-pair-same e1 x e3 z (first.0 ∙ second.0) (omega (arith, first.1, second.1))
  ]
]

get-some : (xs : List Range) (number : ℕ) → number < length xs → (range : Range) × (slice_get xs number ≡ Some range)
get-some [] number lt = absurd (omega arith)
get-some (x ∷ xs) zero lt = (x, refl)
get-some (x ∷ xs) (suc number) lt = get-some xs number (omega arith)

-- each range is before any later one
pub before-far : (ranges : List Range) → ((number : ℕ) (range next : Range) → slice_get ranges number ≡ Some range → slice_get ranges (suc number) ≡ Some next → is_before range next ≡ true) → (at later : ℕ) (range other : Range) → at < later → slice_get ranges at ≡ Some range → slice_get ranges later ≡ Some other →
    is_before range other ≡ true
before-far ranges rising at zero range other lt here there = absurd (omega arith)
before-far ranges rising at (suc later) range other lt here there = elim (before-or-now at later (omega arith)) [
  | inl less ↦
      let between = get-some ranges later (let inside : suc later < length ranges = get-below ranges (suc later) other there in omega (arith, inside)) in
      let first = before-far ranges rising at later range between.0 less here between.1 in
      let second = rising later between.0 other between.1 there in
      exit-through range.entry range.exit between.0.entry between.0.exit other.entry other.exit first second
  | inr now ↦ rising later range other (ap (λ (n : ℕ). slice_get ranges n) (sym now) ∙ here) there
]
