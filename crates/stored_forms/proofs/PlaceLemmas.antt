-- The low digits of a number, and the number that digits are.
use Rattle.std.proofs.Common.{◌≡◌, ℕ, zero, suc, ◌+◌, ◌*◌, ◌/◌, ◌%◌, ◌^◌, ◌<◌, List, [], ◌∷◌, ◌++◌, length, arith, refl, sym, ap, ap₂, ◌∙◌, mod-lt, mod-eq_of_lt}
use Rattle.std.proofs.Math.Arith.{mod-mul}
use Rattle.std.proofs.Math.Nat.{div-div-eq-div-mul, div-eq_of_lt, div-one, mod-one, one-le-pow, pow-succ', pow-zero, zero-mod}
use Rattle.std.proofs.lemmas.Nat.{div-mul-add, mod-mul-add}
use Rattle.std.proofs.lemmas.Int.Digits.{number_lt}
use Rattle.std.specs.Int.Digits.{AllBelowBase, number_from_digits, number_from_digits_after}
use Rattle.stored_forms.specs.Places.{low_digits}

pub length-low_digits : (base count number : ℕ) → length (low_digits base count number) ≡ count
length-low_digits base zero number = refl
length-low_digits base (suc count) number = ap suc (length-low_digits base count number)

pub low_digits-below : (base count number : ℕ) → 0 < base → AllBelowBase base (low_digits base count number)
low_digits-below base zero number some = tt
low_digits-below base (suc count) number some = (mod-lt (number / base ^ count) some, low_digits-below base count number some)

pub power_positive : (base count : ℕ) → 0 < base → 0 < base ^ count
power_positive base count some = omega (arith, one-le-pow count base some)

-- one digit more
mod-power : (base count number : ℕ) → 0 < base → number % base ^ suc count ≡ (number / base ^ count % base) * base ^ count + number % base ^ count
mod-power base count number some =
    ap (λ (power : ℕ). number % power) (pow-succ' base count)
    ∙ mod-mul number some (power_positive base count some)

place_more : (after base power digit low whole more : ℕ) → whole ≡ digit * power + low → more ≡ base * power → (after * base + digit) * power + low ≡ after * more + whole
place_more after base power digit low whole more e f = omega (arith, ap (λ (x : ℕ). after * x) f)

pub number_after-low_digits : (base count number after : ℕ) → 0 < base → number_from_digits_after base after (low_digits base count number) ≡ after * base ^ count + number % base ^ count
number_after-low_digits base zero number after some =
    omega (arith, ap (λ (x : ℕ). after * x) (pow-zero base), ap (λ (x : ℕ). number % x) (pow-zero base), mod-one number)
number_after-low_digits base (suc count) number after some =
    let digit : ℕ = number / base ^ count % base in
    number_after-low_digits base count number (after * base + digit) some
    ∙ place_more after base (base ^ count) digit (number % base ^ count) (number % base ^ suc count) (base ^ suc count) (mod-power base count number some) (pow-succ' base count)

-- a number is written whole where it has no more digits
pub number-low_digits : (base count number : ℕ) → 0 < base → number < base ^ count → number_from_digits base (low_digits base count number) ≡ number
number-low_digits base count number some short =
    let whole : number % base ^ count ≡ number = mod-eq_of_lt short in
    omega (arith, number_after-low_digits base count number 0 some, whole)

-- what stands before digits counts by its place
pub number_after-is : (base after : ℕ) (digits : List ℕ) → number_from_digits_after base after digits ≡ after * base ^ length digits + number_from_digits base digits
number_after-is base after [] = omega (arith, ap (λ (x : ℕ). after * x) (pow-zero base))
number_after-is base after (digit ∷ digits) =
    let before = number_after-is base (after * base + digit) digits in
    let alone = number_after-is base (0 * base + digit) digits in
    before
    ∙ place_more after base (base ^ length digits) digit (number_from_digits base digits) (number_from_digits base (digit ∷ digits)) (base ^ suc (length digits)) (omega (arith, alone)) (pow-succ' base (length digits))

-- digits are those of their number
pub low_digits-number_after : (base after : ℕ) (digits : List ℕ) → AllBelowBase base digits → low_digits base (length digits) (number_from_digits_after base after digits) ≡ digits
low_digits-number_after base after [] below = refl
low_digits-number_after base after (digit ∷ digits) below =
    let power : ℕ = base ^ length digits in
    let split = number_after-is base (after * base + digit) digits in
    let high : number_from_digits_after base (after * base + digit) digits / power ≡ after * base + digit =
    ap (λ (x : ℕ). x / power) split ∙ div-mul-add (after * base + digit) power (number_from_digits base digits) (number_lt base digits below.1) in
    ap₂ ◌∷◌ (ap (λ (x : ℕ). x % base) high ∙ mod-mul-add after base digit below.0) (low_digits-number_after base (after * base + digit) digits below.1)

-- the last digit apart
pub low_digits-push : (base count number : ℕ) → low_digits base (suc count) number ≡ low_digits base count (number / base) ++ number % base ∷ []
low_digits-push base zero number =
    ap (λ (x : ℕ). x % base ∷ []) (ap (λ (x : ℕ). number / x) (pow-zero base) ∙ div-one number)
low_digits-push base (suc count) number =
    let high : number / base ^ suc count ≡ number / base / base ^ count =
    ap (λ (x : ℕ). number / x) (pow-succ' base count) ∙ sym (div-div-eq-div-mul number base (base ^ count)) in
    ap₂ ◌∷◌ (ap (λ (x : ℕ). x % base) high) (low_digits-push base count number)

-- one digit more than a number has is a zero
pub low_digits-short : (base count number : ℕ) → number < base ^ count → low_digits base (suc count) number ≡ 0 ∷ low_digits base count number
low_digits-short base count number short =
    ap (λ (x : ℕ). x ∷ low_digits base count number) (ap (λ (x : ℕ). x % base) (div-eq_of_lt short) ∙ zero-mod base)
