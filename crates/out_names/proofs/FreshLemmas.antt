-- Numbers that aren't taken.
use Rattle.std.proofs.Common.{◌≡◌, ℕ, zero, suc, ◌+◌, ◌-◌, ◌*◌, ◌<◌, ◌≤◌, ◌^◌, inl, inr, Bool, true, false, if◌then◌else◌, ◌||◌, List, [], ◌∷◌, ◌++◌, length, refl, ap, sym, ◌∙◌, subst, arith, add-one}
use Rattle.std.specs.Prelude.{position, is_some, Option, Some, None}
use Rattle.std.specs.List.{list_any}
use Rattle.std.specs.Str.{bytes_eq}
use Rattle.std.specs.Fmt.{decimal}
use native.Mathlib.Numerals.{unary_clauses}
use Rattle.std.proofs.lemmas.Bool.Decides.{nat_tests}
use Rattle.std.proofs.lemmas.Bool.{cases_Bool, cases_lt}
use Rattle.std.proofs.lemmas.Fmt.{decimal_injective}
use Rattle.std.proofs.lemmas.List.{append_cancel_left}
use Rattle.std.proofs.lemmas.Slice.Eq.{bytes_eq-Decides}
use Rattle.out_names.specs.FreshWords.{is_taken, first_free, fresh_number, IsFresh}
use Rattle.out_names.specs.Naming.{procedure_stem, named}

-- ---- no more numbers are taken than there are words

-- of the numbers below n
abbrev pub taken_below : List (List ℕ) → List ℕ → ℕ → ℕ
taken_below words stem zero = 0
taken_below words stem (suc n) = (if is_taken words stem n then suc (taken_below words stem n) else taken_below words stem n)

abbrev hits : List ℕ → List ℕ → ℕ → ℕ
hits word stem zero = 0
hits word stem (suc n) = (if bytes_eq (stem ++ decimal n) word then suc (hits word stem n) else hits word stem n)

same_number : (word stem : List ℕ) (m n : ℕ) → m < 2 ^ 64 → n < 2 ^ 64 →
    bytes_eq (stem ++ decimal m) word ≡ true → bytes_eq (stem ++ decimal n) word ≡ true → m ≡ n
same_number word stem m n below above e f =
    let a = (bytes_eq-Decides (stem ++ decimal m) word).0 e in
    let b = (bytes_eq-Decides (stem ++ decimal n) word).0 f in
    decimal_injective m n below above (append_cancel_left stem (decimal m) (decimal n) (a ∙ sym b))

no_hits : (word stem : List ℕ) (n m : ℕ) → n ≤ m → m < 2 ^ 64 → bytes_eq (stem ++ decimal m) word ≡ true → hits word stem n ≡ 0
no_hits word stem zero m le below e = refl
no_hits word stem (suc n) m le below e = elim (cases_Bool (bytes_eq (stem ++ decimal n) word)) [
  | inl is ↦
      let same : n ≡ m = same_number word stem n m (omega arith) below is e in
      absurd (omega arith)
  | inr not ↦ ap (λ b. (if b then suc (hits word stem n) else hits word stem n)) not ∙ no_hits word stem n m (omega arith) below e
]

one_hit : (word stem : List ℕ) (n : ℕ) → n < 2 ^ 64 → hits word stem n ≤ 1
one_hit word stem zero below = omega arith
one_hit word stem (suc n) below = elim (cases_Bool (bytes_eq (stem ++ decimal n) word)) [
  | inl is ↦
      let none : hits word stem n ≡ 0 = no_hits word stem n n (omega arith) (omega arith) is in
      let e : hits word stem (suc n) ≡ suc 0 = ap (λ b. (if b then suc (hits word stem n) else hits word stem n)) is ∙ ap suc none in
      omega (arith, e)
  | inr not ↦
      let e : hits word stem (suc n) ≡ hits word stem n = ap (λ b. (if b then suc (hits word stem n) else hits word stem n)) not in
      omega (arith, e, one_hit word stem n (omega arith))
]

-- what is taken by these words is hit by the first, or taken by the others
one_more_word : (word : List ℕ) (words : List (List ℕ)) (stem : List ℕ) (n : ℕ) →
    taken_below (word ∷ words) stem n ≤ hits word stem n + taken_below words stem n
one_more_word word words stem zero = omega arith
one_more_word word words stem (suc n) =
    let less = one_more_word word words stem n in
    elim (cases_Bool (bytes_eq (stem ++ decimal n) word)) [
      | inl is ↦
          let taken : taken_below (word ∷ words) stem (suc n) ≡ suc (taken_below (word ∷ words) stem n) =
          ap (λ b. (if (b || is_taken words stem n) then suc (taken_below (word ∷ words) stem n) else taken_below (word ∷ words) stem n)) is in
          let hit : hits word stem (suc n) ≡ suc (hits word stem n) = ap (λ b. (if b then suc (hits word stem n) else hits word stem n)) is in
          elim (cases_Bool (is_taken words stem n)) [
            | inl t ↦
                let more : taken_below words stem (suc n) ≡ suc (taken_below words stem n) = ap (λ b. (if b then suc (taken_below words stem n) else taken_below words stem n)) t in
                omega (arith, less, taken, hit, more)
            | inr t ↦
                let more : taken_below words stem (suc n) ≡ taken_below words stem n = ap (λ b. (if b then suc (taken_below words stem n) else taken_below words stem n)) t in
                omega (arith, less, taken, hit, more)
          ]
      | inr not ↦
          let hit : hits word stem (suc n) ≡ hits word stem n = ap (λ b. (if b then suc (hits word stem n) else hits word stem n)) not in
          elim (cases_Bool (is_taken words stem n)) [
            | inl t ↦
                let taken : taken_below (word ∷ words) stem (suc n) ≡ suc (taken_below (word ∷ words) stem n) =
                ap (λ b. (if (b || is_taken words stem n) then suc (taken_below (word ∷ words) stem n) else taken_below (word ∷ words) stem n)) not
                ∙ ap (λ b. (if b then suc (taken_below (word ∷ words) stem n) else taken_below (word ∷ words) stem n)) t in
                let more : taken_below words stem (suc n) ≡ suc (taken_below words stem n) = ap (λ b. (if b then suc (taken_below words stem n) else taken_below words stem n)) t in
                omega (arith, less, taken, hit, more)
            | inr t ↦
                let taken : taken_below (word ∷ words) stem (suc n) ≡ taken_below (word ∷ words) stem n =
                ap (λ b. (if (b || is_taken words stem n) then suc (taken_below (word ∷ words) stem n) else taken_below (word ∷ words) stem n)) not
                ∙ ap (λ b. (if b then suc (taken_below (word ∷ words) stem n) else taken_below (word ∷ words) stem n)) t in
                let more : taken_below words stem (suc n) ≡ taken_below words stem n = ap (λ b. (if b then suc (taken_below words stem n) else taken_below words stem n)) t in
                omega (arith, less, taken, hit, more)
          ]
    ]

none_taken : (stem : List ℕ) (n : ℕ) → taken_below [] stem n ≡ 0
none_taken stem zero = refl
none_taken stem (suc n) = none_taken stem n

pub few_taken : (words : List (List ℕ)) (stem : List ℕ) (n : ℕ) → n < 2 ^ 64 → taken_below words stem n ≤ length words
few_taken [] stem n below = omega (arith, none_taken stem n)
few_taken (word ∷ words) stem n below =
    omega (arith, one_more_word word words stem n, one_hit word stem n below, few_taken words stem n below)

-- ---- the first number that isn't taken

-- where all of so many numbers are taken, so many more are taken below
abbrev AllTaken : List (List ℕ) → List ℕ → ℕ → ℕ → Type 0
AllTaken words stem from number = (k : ℕ) → from ≤ k → k < number → is_taken words stem k ≡ true

taken_between : (words : List (List ℕ)) (stem : List ℕ) (from more : ℕ) → AllTaken words stem from (from + more) →
    taken_below words stem (from + more) ≡ taken_below words stem from + more
taken_between words stem from zero all = simp unary_clauses refl
taken_between words stem from (suc more) all =
    let here : is_taken words stem (from + more) ≡ true = all (from + more) (omega arith) (omega arith) in
    let earlier = taken_between words stem from more (λ k le lt. all k le (omega arith)) in
    let step : taken_below words stem (suc (from + more)) ≡ suc (taken_below words stem (from + more)) =
    ap (λ b. (if b then suc (taken_below words stem (from + more)) else taken_below words stem (from + more))) here in
    let e : from + suc more ≡ suc (from + more) = omega arith in
    ap (taken_below words stem) e ∙ step ∙ ap suc earlier ∙ (omega arith)

-- so many are tried, and then the next is given untried
abbrev IsFirst : ℕ → List (List ℕ) → List ℕ → ℕ → ℕ → Type 0
IsFirst room words stem from number =
    (from ≤ number) × (number ≤ from + room) × AllTaken words stem from number
    × (number < from + room → is_taken words stem number ≡ false)

first_is_first : (room : ℕ) (words : List (List ℕ)) (stem : List ℕ) (from : ℕ) → IsFirst room words stem from (first_free room words stem from)
first_is_first zero words stem from = (omega arith, omega arith, λ k le lt. absurd (omega arith), λ lt. absurd (omega arith))
first_is_first (suc room) words stem from = elim (cases_Bool (is_taken words stem from)) [
  | inl taken ↦
      let later = first_is_first room words stem (suc from) in
      let e : first_free (suc room) words stem from ≡ first_free room words stem (suc from) =
      ap (λ b. if b then first_free room words stem (suc from) else from) taken in
      subst (IsFirst (suc room) words stem from) (sym e) (
        omega (arith, later.0),
        omega (arith, later.1),
        (λ k le lt. elim (cases_lt from k) [
          | inl past ↦ later.2 k (omega arith) lt
          | inr at ↦ let same : from ≡ k = omega arith in subst (λ i. is_taken words stem i ≡ true) same taken
        ]),
        (λ lt. later.3 (omega arith)),
      )
  | inr free ↦
      let e : first_free (suc room) words stem from ≡ from =
      ap (λ b. if b then first_free room words stem (suc from) else from) free in
      subst (IsFirst (suc room) words stem from) (sym e) (omega arith, omega arith, (λ k le lt. absurd (omega arith)), (λ lt. free))
]

pub fresh_is_fresh : (words : List (List ℕ)) (stem : List ℕ) (from : ℕ) → from + length words < 2 ^ 63 → IsFresh words stem from (fresh_number words stem from)
fresh_is_fresh words stem from below =
    let number = fresh_number words stem from in
    let first = first_is_first (length words) words stem from in
    record {
      least = first.0;
      passed = first.2;
      free = elim (cases_lt number (from + length words)) [
        | inl lt ↦ first.3 lt
        | inr ge ↦ elim (cases_Bool (is_taken words stem number)) [
          | inr not ↦ not
          | inl taken ↦
              let all : AllTaken words stem from (from + suc (length words)) = λ k le lt.
              elim (cases_lt k number) [
                | inl before ↦ first.2 k le before
                | inr at ↦ let same : number ≡ k = omega (arith, first.1) in subst (λ i. is_taken words stem i ≡ true) same taken
              ] in
              let count = taken_between words stem from (suc (length words)) all in
              let few = few_taken words stem (from + suc (length words)) (omega arith) in
              absurd (omega (arith, count, few))
        ]
      ];
    }

pub fresh_is_near : (words : List (List ℕ)) (stem : List ℕ) (from : ℕ) → fresh_number words stem from ≤ from + length words
fresh_is_near words stem from = (first_is_first (length words) words stem from).1

-- ---- fresh numbers grow no faster than names are given and numbers taken

pub record IsBehind (words : List (List ℕ)) (given from : ℕ) : Type 0 where
  pub counted : from ≤ given + 1 + taken_below words procedure_stem from
  pub small : from ≤ given + 1 + length words

pub named_is_behind : (words : List (List ℕ)) (label : Option (List ℕ)) (given from : ℕ) → 2 * length words + given < 2 ^ 62 →
    IsBehind words given from → IsBehind words (given + 1) (named words label from).next
named_is_behind words (Some label) given from below h =
    record { counted = omega (arith, h.counted); small = omega (arith, h.small) }
named_is_behind words None given from below h =
    let number = fresh_number words procedure_stem from in
    let fresh = fresh_is_fresh words procedure_stem from (omega (arith, h.small)) in
    let near = fresh_is_near words procedure_stem from in
    let e : from + (number - from) ≡ number = omega (arith, fresh.least) in
    let count = taken_between words procedure_stem from (number - from)
    (λ k le lt. fresh.passed k le (omega (arith, e))) in
    let upto : taken_below words procedure_stem number ≡ taken_below words procedure_stem from + (number - from) =
    ap (taken_below words procedure_stem) (sym e) ∙ count in
    let past : taken_below words procedure_stem (suc number) ≡ taken_below words procedure_stem number =
    ap (λ b. if b then suc (taken_below words procedure_stem number) else taken_below words procedure_stem number) fresh.free in
    let few = few_taken words procedure_stem number (omega (arith, near, h.small)) in
    record {
      counted = omega (arith, h.counted, upto, past, fresh.least);
      small = omega (arith, h.counted, upto, few, fresh.least);
    }

-- ---- tests of a word's place

pub position_any : {X : Type 0} (p : X → Bool) (xs : List X) → is_some (position p xs) ≡ list_any p xs
position_any p [] = refl
position_any p (x ∷ xs) =
    let rest = position_any p xs in
    elim (cases_Bool (p x)) [
      | inl is ↦ rw is (grind (arith, nat_tests))
      | inr not ↦ rw not (grind (arith, nat_tests, rest))
    ]

pub one_tried : (end number : ℕ) (words : List (List ℕ)) (stem : List ℕ) → number < end →
    first_free (end - number) words stem number
    ≡ (if is_taken words stem number then first_free (end - (number + 1)) words stem (number + 1) else number)
one_tried end number words stem lt =
    let e : end - number ≡ suc (end - (number + 1)) = omega arith in
    rw (e, add-one number) refl
