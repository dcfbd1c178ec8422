-- A number that is cut, and its digits.
use Rattle.std.proofs.Common.{◌≡◌, ℕ, zero, suc, ◌+◌, ◌-◌, ◌/◌, ◌%◌, ◌^◌, ◌<◌, ◌≤◌, ℤ, pos, negsuc, neg_ℤ, unsigned_abs, List, [], ◌∷◌, ◌++◌, length, take, drop, set, replicate, slice_get, Some, None, refl, ap, sym, ◌∙◌, arith}
use Rattle.std.proofs.Math.Nat.{mod-lt, pow-le-pow_right, one-le-pow}
use Rattle.std.proofs.lemmas.List.{drop-drop, drop-replicate, drop-set-lt, take-append-drop, take_more_set}
use native.Mathlib.Numerals.{unary_clauses}
use Rattle.cob_num.specs.declared.number.Dec.{Dec}
use Rattle.cob_num.specs.Storing.{with_sign, whole_units}
use Rattle.edit_fields.specs.declared.shape.Shape.{Shape}
use Rattle.edit_fields.specs.Shape.{digits}
use Rattle.edit_fields.specs.Field.{IsNumber, cut, digit_of, numerals}

size_of_negated : (n : ℕ) → unsigned_abs (neg_ℤ (pos n)) ≡ n
size_of_negated zero = refl
size_of_negated (suc n) = refl

pub size_with_sign : (z : ℤ) (n : ℕ) → unsigned_abs (with_sign z n) ≡ n
size_with_sign (pos m) n = refl
size_with_sign (negsuc m) n = size_of_negated n

-- a cut number has no more than the mask's digits
pub cut_short : (value : Dec) (shape : Shape) → unsigned_abs (cut value shape) < 10 ^ digits shape
cut_short value shape =
    let some : 0 < 10 ^ digits shape = omega (arith, one-le-pow (digits shape) 10 (omega arith)) in
    let low : whole_units value shape.part Rattle.std.specs.Prelude.false % 10 ^ digits shape < 10 ^ digits shape = mod-lt (whole_units value shape.part Rattle.std.specs.Prelude.false) some in
    let size : unsigned_abs (cut value shape) ≡ whole_units value shape.part Rattle.std.specs.Prelude.false % 10 ^ digits shape = size_with_sign value.value _ in
    omega arith

pub cut_fits : (value : Dec) (shape : Shape) → IsNumber shape.whole shape.part → unsigned_abs (cut value shape) < 2 ^ 64
cut_fits value shape is =
    let most : 10 ^ digits shape ≤ 10 ^ 18 = pow-le-pow_right (omega arith) is.few_digits in
    omega (arith, most, cut_short value shape)

-- ---- the digits of a number, from the right

append_one : (xs : List ℕ) (y : ℕ) (ys : List ℕ) → xs ++ y ∷ ys ≡ (xs ++ y ∷ []) ++ ys
append_one [] y ys = refl
append_one (x ∷ xs) y ys = ap (λ l. x ∷ l) (append_one xs y ys)

-- one digit more is taken
pub numeral_put : (taken all : List ℕ) (place rest : ℕ) → place < 20 → length taken ≡ 20 → all ≡ take place taken ++ numerals (20 - place) rest → all ≡ take (place + 1) (set taken place (rest % 10)) ++ numerals (20 - (place + 1)) (rest / 10)
unfolding numerals
numeral_put taken all place rest h full is =
    let one : 20 - place ≡ suc (20 - (place + 1)) = omega arith in
    let inside : place < length taken = omega (arith, full) in
    is ∙ ap (λ n. take place taken ++ numerals n rest) one
    ∙ append_one (take place taken) (rest % 10) (numerals (20 - (place + 1)) (rest / 10))
    ∙ ap (λ l. l ++ numerals (20 - (place + 1)) (rest / 10)) (sym (take_more_set taken place (rest % 10) inside))

take_all : (xs : List ℕ) → take (length xs) xs ≡ xs
take_all [] = refl
take_all (x ∷ xs) = ap (λ l. x ∷ l) (take_all xs)

append_none : (xs : List ℕ) → xs ++ [] ≡ xs
append_none [] = refl
append_none (x ∷ xs) = ap (λ l. x ∷ l) (append_none xs)

-- all are taken
pub all_taken : (taken all : List ℕ) (place rest : ℕ) → place ≡ 20 → length taken ≡ 20 → all ≡ take place taken ++ numerals (20 - place) rest → taken ≡ all
unfolding numerals
all_taken taken all place rest e full is =
    let none : 20 - place ≡ 0 = omega arith in
    sym (is ∙ ap (λ n. take place taken ++ numerals n rest) none ∙ append_none (take place taken)
    ∙ ap (λ n. take n taken) (e ∙ sym full) ∙ take_all taken)

-- zero has zeros alone
numerals_zero : (count : ℕ) → numerals count 0 ≡ replicate count 0
unfolding numerals
numerals_zero zero = refl
numerals_zero (suc count) = ap (λ l. 0 ∷ l) (numerals_zero count)

-- where nothing is left the others are zeros
pub zeros_taken : (taken all : List ℕ) (place rest : ℕ) → rest ≡ 0 → drop place taken ≡ replicate (20 - place) 0 → all ≡ take place taken ++ numerals (20 - place) rest → taken ≡ all
zeros_taken taken all place rest none zeros is =
    sym (is ∙ ap (λ n. take place taken ++ numerals (20 - place) n) none
    ∙ ap (λ l. take place taken ++ l) (numerals_zero (20 - place) ∙ sym zeros)
    ∙ take-append-drop place taken)

pub zeros_on : (taken : List ℕ) (place digit : ℕ) → drop place taken ≡ replicate (20 - place) 0 → drop (place + 1) (set taken place digit) ≡ replicate (20 - (place + 1)) 0
zeros_on taken place digit zeros =
    let less : 20 - place - 1 ≡ 20 - (place + 1) = omega arith in
    drop-set-lt (place + 1) taken place digit (omega arith) ∙ sym (drop-drop 1 place taken) ∙ ap (λ l. drop 1 l) zeros
    ∙ drop-replicate 1 (20 - place) 0 ∙ ap (λ n. replicate n 0) less

pub numeral_at : (count right number digit : ℕ) → slice_get (numerals count number) right ≡ Some digit → digit ≡ digit_of right number
unfolding numerals
numeral_at zero zero number digit e = absurd cc
numeral_at zero (suc right) number digit e = absurd cc
numeral_at (suc count) zero number digit e = cc
numeral_at (suc count) (suc right) number digit e = numeral_at count right (number / 10) digit e

none_of_zero : (right : ℕ) → digit_of right 0 ≡ 0
none_of_zero zero = refl
none_of_zero (suc right) = none_of_zero right

-- a number has no digit other than zero behind all that are taken
pub none_behind : (count right number : ℕ) → slice_get (numerals count number) right ≡ None → number < 10 ^ count → digit_of right number ≡ 0
unfolding numerals
none_behind zero right number e h =
    let none : number ≡ 0 = omega arith in
    ap (digit_of right) none ∙ none_of_zero right
none_behind (suc count) zero number e h = absurd cc
none_behind (suc count) (suc right) number e h =
    let less = simp unary_clauses at h in
    none_behind count right (number / 10) e (omega (arith, less))

pub one_numeral : (right number : ℕ) → digit_of right number ≤ 9
one_numeral zero number = omega arith
one_numeral (suc right) number = one_numeral right (number / 10)
