-- No name of a paragraph stands twice.
use Rattle.std.proofs.Common.{◌≡◌, ℕ, zero, suc, ◌+◌, ◌<◌, ◌≤◌, Bool, true, false, ◌||◌, List, [], ◌∷◌, ◌++◌, refl, ap, sym, ◌∙◌, subst, arith, append_assoc}
use Rattle.std.specs.Prelude.{codes, drop, ◌^◌}
use Rattle.std.specs.Fmt.{decimal}
use Rattle.std.specs.List.{list_all, list_any}
use Rattle.std.specs.Str.{bytes_eq}
use Rattle.std.proofs.lemmas.Bool.{and_parts}
use Rattle.std.proofs.lemmas.Fmt.{decimal_injective}
use Rattle.std.proofs.lemmas.List.Sums.{list_all-from_AllPass}
use Rattle.std.proofs.lemmas.Slice.Eq.{bytes_eq-Decides}
use Rattle.cobol_lex.specs.Byte.{is_digit}
use Rattle.cob_words.proofs.numbered_lemmas.NumberedLemmas.{decimal_is_digits}
use Rattle.round_trip.specs.procedures.Names.{header_names, AreDifferent}
use Rattle.program_gen.specs.Generated.{next_of, group_word, groups_of, generated}

-- ---- digits, a hyphen, and what stands behind it

first-is : {x y : ℕ} {xs ys : List ℕ} → x ∷ xs ≡ y ∷ ys → x ≡ y
first-is e = cc

rest-is : {x y : ℕ} {xs ys : List ℕ} → x ∷ xs ≡ y ∷ ys → xs ≡ ys
rest-is e = cc

no-hyphen : {C : Type 0} (b : ℕ) (more : List ℕ) → list_all is_digit (b ∷ more) ≡ true → b ≡ 45 → C
no-hyphen b more h e =
    let digit = (and_parts (is_digit b) (list_all is_digit more) h).0 in
    absurd (never (subst (λ x. is_digit x ≡ true) e digit))
  where
    never : is_digit 45 ≡ true → ⊥
    never e = cc

parted : (xs ys before behind : List ℕ) → list_all is_digit xs ≡ true → list_all is_digit ys ≡ true → xs ++ 45 ∷ before ≡ ys ++ 45 ∷ behind → (xs ≡ ys) × (before ≡ behind)
parted [] [] before behind h k e = (refl, rest-is e)
parted [] (y ∷ ys) before behind h k e = no-hyphen y ys k (sym (first-is e))
parted (x ∷ xs) [] before behind h k e = no-hyphen x xs h (first-is e)
parted (x ∷ xs) (y ∷ ys) before behind h k e =
    let more = parted xs ys before behind (and_parts (is_digit x) (list_all is_digit xs) h).1 (and_parts (is_digit y) (list_all is_digit ys) k).1 (rest-is e) in
    (ap (λ b. b ∷ xs) (first-is e) ∙ ap (λ list. y ∷ list) more.0, more.1)

are-digits : (n : ℕ) → n < 2 ^ 64 → list_all is_digit (decimal n) ≡ true
are-digits n small = list_all-from_AllPass is_digit (decimal n) (decimal_is_digits n small)

same-numbers : (group number other last : ℕ) → group < 2 ^ 64 → number < 2 ^ 64 → other < 2 ^ 64 → last < 2 ^ 64 → group_word group number ≡ group_word other last → (group ≡ other) × (number ≡ last)
same-numbers group number other last g n o l e =
    let parts = parted (decimal group) (decimal other) (decimal number) (decimal last) (are-digits group g) (are-digits other o)
    (sym (append_assoc (decimal group) (codes "-") (decimal number)) ∙ (ap (drop 2) e ∙ append_assoc (decimal other) (codes "-") (decimal last))) in
    (decimal_injective group other g o parts.0, decimal_injective number last n l parts.1)

by-equal : (b : Bool) → (b ≡ true → ⊥) → b ≡ false
by-equal false h = refl
by-equal true h = absurd (h refl)

apart : (group number other last : ℕ) → group < 2 ^ 64 → number < 2 ^ 64 → other < 2 ^ 64 → last < 2 ^ 64 → (group ≡ other → number ≡ last → ⊥) → bytes_eq (group_word group number) (group_word other last) ≡ false
apart group number other last g n o l h =
    by-equal (bytes_eq (group_word group number) (group_word other last)) (λ e.
    let same = same-numbers group number other last g n o l ((bytes_eq-Decides (group_word group number) (group_word other last)).0 e) in h same.0 same.1)

-- ---- the names of groups

either : (a b : Bool) → a ≡ false → b ≡ false → (a || b) ≡ false
either a b h k = ap (λ x. x || b) h ∙ k

none-of : (test : List ℕ → Bool) (count group x : ℕ) → ((later number : ℕ) → group ≤ later → later < group + count → number < 2 ^ 64 → test (group_word later number) ≡ false) → list_any test (header_names (groups_of count group x)) ≡ false
none-of test zero group x h = refl
none-of test (suc count) group x h =
    let one : (number : ℕ) → number < 2 ^ 64 → test (group_word group number) ≡ false = λ number small. h group number (omega arith) (omega arith) small in
    either (test (group_word group 1)) _ (one 1 (omega arith))
    (either (test (group_word group 2)) _ (one 2 (omega arith))
    (either (test (group_word group 3)) _ (one 3 (omega arith))
    (either (test (group_word group 4)) _ (one 4 (omega arith))
    (none-of test count (suc group) (next_of (next_of (next_of x))) (λ later number low high small. h later number (omega (arith, low)) (omega (arith, high)) small)))))

within : (group number last : ℕ) → group < 2 ^ 64 → number < last → last < 2 ^ 64 → bytes_eq (group_word group number) (group_word group last) ≡ false
within group number last g less l = apart group number group last g (omega (arith, less, l)) g l (λ e f. omega (arith, f, less))

groups-different : (count group x : ℕ) → group + count ≤ 1250 → AreDifferent (header_names (groups_of count group x))
groups-different zero group x small = tt
groups-different (suc count) group x small =
    let g : group < 2 ^ 64 = omega (arith, small) in
    let later = groups-different count (suc group) (next_of (next_of (next_of x))) (omega (arith, small)) in (
      either (bytes_eq (group_word group 1) (group_word group 2)) _ (within group 1 2 g (omega arith) (omega arith))
          (either (bytes_eq (group_word group 1) (group_word group 3)) _ (within group 1 3 g (omega arith) (omega arith))
          (either (bytes_eq (group_word group 1) (group_word group 4)) _ (within group 1 4 g (omega arith) (omega arith)) (new 1 (omega arith)))),
      (
        either (bytes_eq (group_word group 2) (group_word group 3)) _ (within group 2 3 g (omega arith) (omega arith))
            (either (bytes_eq (group_word group 2) (group_word group 4)) _ (within group 2 4 g (omega arith) (omega arith)) (new 2 (omega arith))),
        (either (bytes_eq (group_word group 3) (group_word group 4)) _ (within group 3 4 g (omega arith) (omega arith)) (new 3 (omega arith)), (new 4 (omega arith), later)),
      ),
    )
  where
    new : (number : ℕ) → number < 2 ^ 64 → list_any (bytes_eq (group_word group number)) (header_names (groups_of count (suc group) (next_of (next_of (next_of x))))) ≡ false
    new number few =
        none-of (bytes_eq (group_word group number)) count (suc group) (next_of (next_of (next_of x)))
        (λ later last low high l. apart group number later last (omega (arith, small)) few (omega (arith, high, small)) l (λ e f. omega (arith, e, low)))

pub different : (n : ℕ) → n ≤ 1249 → AreDifferent (header_names (generated n).paragraphs)
different n small = (
  none-of (bytes_eq (codes "M")) n 1 n (λ later number low high few. refl),
  groups-different n 1 n (omega (arith, small)),
)
