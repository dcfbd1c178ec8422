-- Half bytes of bytes, digits in them, and the sign.
use Rattle.std.proofs.Common.{◌≡◌, ℕ, zero, suc, ◌+◌, ◌-◌, ◌*◌, ◌/◌, ◌%◌, ◌^◌, ◌<◌, ◌≤◌, ◌⊎◌, Bool, true, false, ◌&&◌, ◌==◌, List, [], ◌∷◌, ◌++◌, length, map, take, drop, replicate, set, get_or, Option, Some, None, ℤ, pos, negsuc, ◌≤ℤ◌, unsigned_abs, nat_le, if◌then◌else◌, arith, refl, sym, ap, ap₂, ◌∙◌, inl, inr, ⊎_elim, lit<, le-leb, ne_eqb, append_assoc, length-append, take_all, mod-lt, pow-suc}
use Rattle.std.proofs.Math.Nat.{div-div-eq-div-mul, pow-le-pow_right}
use Rattle.std.proofs.lemmas.Bool.{cases_lt, lt-leb}
use Rattle.std.proofs.lemmas.Grind.{pow_more}
use Rattle.std.proofs.lemmas.Int.{ints}
use Rattle.std.proofs.lemmas.Int.Digits.{number_push}
use Rattle.std.proofs.lemmas.List.{drop_all, drop_at, drop_more, length-map, length-replicate, length_push, same_from_push, set_at, take_at, take_more}
use Rattle.std.proofs.lemmas.List.Folds.{list_all-append}
use Rattle.std.proofs.lemmas.Nat.{div-mul-add, mod-mul-add}
use Rattle.std.proofs.lemmas.Option.{cond_some}
use Rattle.std.specs.Int.Digits.{AllBelowBase, number_from_digits, number_from_digits_after}
use Rattle.std.specs.List.{list_all}
use Rattle.std.specs.Option.{option_and_then}
use Rattle.stored_forms.specs.Item.{IsHeld}
use Rattle.stored_forms.specs.Places.{low_digits}
use Rattle.stored_forms.specs.Packed.{decimal_number, fill_count, halves_of, joined_halves, last_half, number_halves, packed_bytes, packed_halves, packed_number, packed_size, packed_value, pair_byte, sign_half, value_by_sign}
use Rattle.stored_forms.proofs.PlaceLemmas.{length-low_digits, low_digits-push, low_digits-short, number-low_digits}

-- ---- half bytes

halves-push : (front : List ℕ) (last : ℕ) → halves_of (front ++ last ∷ []) ≡ halves_of front ++ last / 16 ∷ last % 16 ∷ []
halves-push [] last = refl
halves-push (byte ∷ front) last = ap (λ (hs : List ℕ). byte / 16 ∷ byte % 16 ∷ hs) (halves-push front last)

pub length-halves : (bytes : List ℕ) → length (halves_of bytes) ≡ length bytes * 2
length-halves [] = refl
length-halves (byte ∷ bytes) = omega (arith, length-halves bytes)

split_last : (bytes : List ℕ) → 0 < length bytes → bytes ≡ take (length bytes - 1) bytes ++ get_or bytes (length bytes - 1) 0 ∷ []
split_last bytes some =
    sym (take_all (length bytes - 1 + 1) bytes (omega arith)) ∙ take_more bytes (length bytes - 1) 0 (omega arith)

-- the half bytes with the sign apart
halves-split : (bytes : List ℕ) → 0 < length bytes → halves_of bytes ≡ (halves_of (take (length bytes - 1) bytes) ++ get_or bytes (length bytes - 1) 0 / 16 ∷ []) ++ last_half bytes ∷ []
halves-split bytes some =
    let front : List ℕ = take (length bytes - 1) bytes in
    let last : ℕ = get_or bytes (length bytes - 1) 0 in
    ap halves_of (split_last bytes some) ∙ halves-push front last ∙ sym (append_assoc (halves_of front) (last / 16 ∷ []) (last % 16 ∷ []))

take-front : (xs : List ℕ) (x : ℕ) → take (length (xs ++ x ∷ []) - 1) (xs ++ x ∷ []) ≡ xs
take-front xs x =
    let size : length (xs ++ x ∷ []) - 1 ≡ length xs = omega (arith, length_push xs x) in
    ap (λ (n : ℕ). take n (xs ++ x ∷ [])) size ∙ take_at xs (x ∷ []) (length xs) refl

pub number_halves-at : (bytes xs : List ℕ) (sign : ℕ) → halves_of bytes ≡ xs ++ sign ∷ [] → number_halves bytes ≡ xs
number_halves-at bytes xs sign e = ap (λ (hs : List ℕ). take (length hs - 1) hs) e ∙ take-front xs sign

last_half-at : (bytes xs : List ℕ) (sign : ℕ) → 0 < length bytes → halves_of bytes ≡ xs ++ sign ∷ [] → last_half bytes ≡ sign
last_half-at bytes xs sign some e =
    (same_from_push (halves_of (take (length bytes - 1) bytes) ++ get_or bytes (length bytes - 1) 0 / 16 ∷ []) xs (last_half bytes) sign (sym (halves-split bytes some) ∙ e)).1

-- the half bytes of a number are those of all bytes but the last, and the high one of that
number_halves-is : (bytes : List ℕ) → 0 < length bytes → number_halves bytes ≡ halves_of (take (length bytes - 1) bytes) ++ get_or bytes (length bytes - 1) 0 / 16 ∷ []
number_halves-is bytes some =
    number_halves-at bytes (halves_of (take (length bytes - 1) bytes) ++ get_or bytes (length bytes - 1) 0 / 16 ∷ []) (last_half bytes) (halves-split bytes some)

pub halves-whole : (bytes : List ℕ) → 0 < length bytes → halves_of bytes ≡ number_halves bytes ++ last_half bytes ∷ []
halves-whole bytes some =
    halves-split bytes some ∙ ap (λ (xs : List ℕ). xs ++ last_half bytes ∷ []) (sym (number_halves-is bytes some))

first_half : (bytes : List ℕ) → 0 < length bytes → (rest : List ℕ) × (number_halves bytes ≡ get_or bytes 0 0 / 16 ∷ rest)
first_half [] some = absurd (omega arith)
first_half (byte ∷ bytes) some =
    let hs : List ℕ = halves_of bytes in
    let size : length (byte / 16 ∷ byte % 16 ∷ hs) - 1 ≡ suc (length hs) = omega arith in
    (take (length hs) (byte % 16 ∷ hs), ap (λ (n : ℕ). take n (byte / 16 ∷ byte % 16 ∷ hs)) size)

-- ---- decimal digits

-- the number that digits are behind another one, where none is above 9
abbrev decimal_after : ℕ → List ℕ → Option ℕ
decimal_after after digits =
    if list_all (λ digit. nat_le digit 9) digits then Some (number_from_digits_after 10 after digits) else None

decimal-more : (number byte : ℕ) (rest : List ℕ) → byte / 16 ≤ 9 → byte % 16 ≤ 9 → decimal_after number (halves_of (byte ∷ rest)) ≡ decimal_after (number * 100 + (byte / 16 * 10 + byte % 16)) (halves_of rest)
decimal-more number byte rest high low =
    let others : Bool = list_all (λ digit. nat_le digit 9) (halves_of rest) in
    let sum : (number * 10 + byte / 16) * 10 + byte % 16 ≡ number * 100 + (byte / 16 * 10 + byte % 16) = omega arith in
    ap₂ (λ (p q : Bool). if p && (q && others) then Some (number_from_digits_after 10 ((number * 10 + byte / 16) * 10 + byte % 16) (halves_of rest)) else None) (le-leb (byte / 16) 9 high) (le-leb (byte % 16) 9 low)
    ∙ ap (λ (n : ℕ). if others then Some (number_from_digits_after 10 n (halves_of rest)) else None) sum

pub decimal-high : (number byte : ℕ) (rest : List ℕ) → 9 < byte / 16 → decimal_after number (halves_of (byte ∷ rest)) ≡ None
decimal-high number byte rest high =
    let others : Bool = nat_le (byte % 16) 9 && list_all (λ digit. nat_le digit 9) (halves_of rest) in
    ap (λ (p : Bool). if p && others then Some (number_from_digits_after 10 ((number * 10 + byte / 16) * 10 + byte % 16) (halves_of rest)) else None) (lt-leb (byte / 16) 9 high)

none_second : (p : Bool) (n : ℕ) → ◌≡◌ {A = Option ℕ} (if p && false then Some n else None) None
none_second true n = refl
none_second false n = refl

pub decimal-low : (number byte : ℕ) (rest : List ℕ) → 9 < byte % 16 → decimal_after number (halves_of (byte ∷ rest)) ≡ None
decimal-low number byte rest low =
    let others : Bool = list_all (λ digit. nat_le digit 9) (halves_of rest) in
    let whole : ℕ = number_from_digits_after 10 ((number * 10 + byte / 16) * 10 + byte % 16) (halves_of rest) in
    ap (λ (q : Bool). if nat_le (byte / 16) 9 && (q && others) then Some whole else None) (lt-leb (byte % 16) 9 low)
    ∙ none_second (nat_le (byte / 16) 9) whole

-- the bytes before an index are read into the number, two digits each
pub record ArePairsTo (bytes : List ℕ) (index number : ℕ) : Type 0 where
  pub value : decimal_after number (halves_of (drop index bytes)) ≡ decimal_number (halves_of bytes)
  pub below : number < 100 ^ index

pub pairs-none : (bytes : List ℕ) → ArePairsTo bytes 0 0
pairs-none bytes = record { value = refl; below = lit< tt }

pub pairs-more : (bytes : List ℕ) (index number : ℕ) → index < length bytes → get_or bytes index 0 / 16 ≤ 9 → get_or bytes index 0 % 16 ≤ 9 → ArePairsTo bytes index number → ArePairsTo bytes (index + 1) (number * 100 + (get_or bytes index 0 / 16 * 10 + get_or bytes index 0 % 16))
pairs-more bytes index number less high low so_far = record {
  value =
      sym (decimal-more number (get_or bytes index 0) (drop (index + 1) bytes) high low)
      ∙ sym (ap (λ (xs : List ℕ). decimal_after number (halves_of xs)) (drop_more bytes index 0 less))
      ∙ so_far.value;
  below = omega (arith, pow_more 100 index, so_far.below);
}

pub pairs-stop : (bytes : List ℕ) (index number : ℕ) → index < length bytes → (9 < get_or bytes index 0 / 16) ⊎ (9 < get_or bytes index 0 % 16) → ArePairsTo bytes index number → None ≡ decimal_number (halves_of bytes)
pairs-stop bytes index number less above so_far =
    let rest : List ℕ = drop (index + 1) bytes in
    let stops : decimal_after number (halves_of (get_or bytes index 0 ∷ rest)) ≡ None =
    ⊎_elim (λ high. decimal-high number (get_or bytes index 0) rest high) (λ low. decimal-low number (get_or bytes index 0) rest low) above in
    sym stops
    ∙ sym (ap (λ (xs : List ℕ). decimal_after number (halves_of xs)) (drop_more bytes index 0 less))
    ∙ so_far.value

pub pairs-all : (bytes : List ℕ) (index number : ℕ) → length bytes ≤ index → ArePairsTo bytes index number → Some number ≡ decimal_number (halves_of bytes)
pairs-all bytes index number all so_far =
    sym (ap (λ (xs : List ℕ). decimal_after number (halves_of xs)) (drop_all index bytes all)) ∙ so_far.value

-- a number of fewer than 9 pairs has room for one more
pub pairs-fit : (index number : ℕ) → index < 9 → number < 100 ^ index → number * 100 + 99 < 18446744073709551616
pairs-fit index number few below =
    let at_most : index ≤ 8 = omega arith in
    let power : 100 ^ index ≤ 100 ^ 8 = pow-le-pow_right (lit< tt) at_most in
    omega (arith, power)

pub pairs-short : (index number : ℕ) → index ≤ 9 → number < 100 ^ index → number < 10 ^ 18
pairs-short index number few below =
    let power : 100 ^ index ≤ 100 ^ 9 = pow-le-pow_right (lit< tt) few in omega (arith, power)

decimal-append : (digits : List ℕ) (digit : ℕ) → decimal_number (digits ++ digit ∷ []) ≡ (if list_all (λ d. nat_le d 9) digits && (nat_le digit 9 && true) then Some (number_from_digits 10 digits * 10 + digit) else None)
decimal-append digits digit =
    ap₂ (λ (p : Bool) (n : ℕ). if p then Some n else None) (list_all-append (λ d. nat_le d 9) digits (digit ∷ [])) (number_push 10 digits digit)

pub decimal-push : (digits : List ℕ) (digit number : ℕ) → digit ≤ 9 → decimal_number digits ≡ Some number → decimal_number (digits ++ digit ∷ []) ≡ Some (number * 10 + digit)
decimal-push digits digit number small e =
    let parts = cond_some (list_all (λ d. nat_le d 9) digits) (number_from_digits 10 digits) number e in
    decimal-append digits digit
    ∙ ap₂ (λ (p q : Bool). if p && (q && true) then Some (number_from_digits 10 digits * 10 + digit) else None) parts.0 (le-leb digit 9 small)
    ∙ ap (λ (n : ℕ). Some (n * 10 + digit)) parts.1

pub decimal-push_above : (digits : List ℕ) (digit : ℕ) → 9 < digit → decimal_number (digits ++ digit ∷ []) ≡ None
decimal-push_above digits digit above =
    decimal-append digits digit
    ∙ ap (λ (q : Bool). if list_all (λ d. nat_le d 9) digits && (q && true) then Some (number_from_digits 10 digits * 10 + digit) else None) (lt-leb digit 9 above)
    ∙ none_second (list_all (λ d. nat_le d 9) digits) (number_from_digits 10 digits * 10 + digit)

none_test : (p : Bool) (n : ℕ) → ◌≡◌ {A = Option ℕ} (if p then Some n else None) None → p ≡ false
none_test true n e = cc
none_test false n e = refl

pub decimal-push_none : (digits : List ℕ) (digit : ℕ) → decimal_number digits ≡ None → decimal_number (digits ++ digit ∷ []) ≡ None
decimal-push_none digits digit e =
    decimal-append digits digit
    ∙ ap (λ (p : Bool). if p && (nat_le digit 9 && true) then Some (number_from_digits 10 digits * 10 + digit) else None) (none_test (list_all (λ d. nat_le d 9) digits) (number_from_digits 10 digits) e)

-- ---- what fills the front

pub parity : (digits : ℕ) → (digits % 2 ≡ 0) ⊎ (digits % 2 ≡ 1)
parity digits =
    let below : digits % 2 < 2 = mod-lt digits (lit< tt) in
    ⊎_elim (λ l. inl (omega (arith, l))) (λ l. inr (omega (arith, l, below))) (cases_lt (digits % 2) 1)

fill-even : (digits : ℕ) → digits % 2 ≡ 0 → fill_count digits ≡ 1
fill-even digits e = omega arith

fill-odd : (digits : ℕ) → digits % 2 ≡ 1 → fill_count digits ≡ 0
fill-odd digits e = omega arith

-- the number in half bytes of which so many fill
abbrev filled_number : ℕ → List ℕ → Option ℕ
filled_number count hs =
    if list_all (λ half. half == 0) (take count hs) then decimal_number (drop count hs) else None

pub filled-zero : (bytes rest : List ℕ) (digits first : ℕ) → number_halves bytes ≡ first ∷ rest → (digits % 2 ≡ 0 → first ≡ 0) → packed_number bytes digits ≡ decimal_number (number_halves bytes)
filled-zero bytes rest digits first e zeros =
    ⊎_elim
    (λ even.
    let is_zero : number_halves bytes ≡ 0 ∷ rest = e ∙ ap (λ (x : ℕ). x ∷ rest) (zeros even) in
    ap₂ filled_number (fill-even digits even) is_zero ∙ ap decimal_number (sym is_zero))
    (λ odd. ap (λ (n : ℕ). filled_number n (number_halves bytes)) (fill-odd digits odd))
    (parity digits)

pub filled-other : (bytes rest : List ℕ) (digits first : ℕ) → number_halves bytes ≡ first ∷ rest → digits % 2 ≡ 0 → 0 < first → packed_number bytes digits ≡ None
filled-other bytes rest digits first e even some =
    ap₂ filled_number (fill-even digits even) e
    ∙ ap (λ (t : Bool). if t && true then decimal_number rest else None) (ne_eqb first 0 (λ z. omega arith))

-- ---- reading

pub read-filled : (bytes : List ℕ) (digits : ℕ) (signed : Bool) → 0 < length bytes → digits % 2 ≡ 0 → 0 < get_or bytes 0 0 / 16 → None ≡ packed_value bytes digits signed
read-filled bytes digits signed some even first =
    let at_first = first_half bytes some in
    sym (ap (option_and_then (value_by_sign (last_half bytes) signed)) (filled-other bytes at_first.0 digits (get_or bytes 0 0 / 16) at_first.1 even first))

number-at : (bytes : List ℕ) (digits : ℕ) → 0 < length bytes → (digits % 2 ≡ 0 → get_or bytes 0 0 / 16 ≡ 0) → packed_number bytes digits ≡ decimal_number (halves_of (take (length bytes - 1) bytes) ++ get_or bytes (length bytes - 1) 0 / 16 ∷ [])
number-at bytes digits some zeros =
    let at_first = first_half bytes some in
    filled-zero bytes at_first.0 digits (get_or bytes 0 0 / 16) at_first.1 zeros
    ∙ ap decimal_number (number_halves-is bytes some)

pub read-above : (bytes : List ℕ) (digits : ℕ) (signed : Bool) → 0 < length bytes → (digits % 2 ≡ 0 → get_or bytes 0 0 / 16 ≡ 0) → 9 < get_or bytes (length bytes - 1) 0 / 16 → None ≡ packed_value bytes digits signed
read-above bytes digits signed some zeros above =
    sym (ap (option_and_then (value_by_sign (last_half bytes) signed)) (number-at bytes digits some zeros ∙ decimal-push_above (halves_of (take (length bytes - 1) bytes)) (get_or bytes (length bytes - 1) 0 / 16) above))

pub read-none : (bytes : List ℕ) (digits : ℕ) (signed : Bool) → 0 < length bytes → (digits % 2 ≡ 0 → get_or bytes 0 0 / 16 ≡ 0) → decimal_number (halves_of (take (length bytes - 1) bytes)) ≡ None → None ≡ packed_value bytes digits signed
read-none bytes digits signed some zeros none =
    sym (ap (option_and_then (value_by_sign (last_half bytes) signed)) (number-at bytes digits some zeros ∙ decimal-push_none (halves_of (take (length bytes - 1) bytes)) (get_or bytes (length bytes - 1) 0 / 16) none))

pub read-some : (bytes : List ℕ) (digits : ℕ) (signed : Bool) (number : ℕ) → 0 < length bytes → (digits % 2 ≡ 0 → get_or bytes 0 0 / 16 ≡ 0) → get_or bytes (length bytes - 1) 0 / 16 ≤ 9 → decimal_number (halves_of (take (length bytes - 1) bytes)) ≡ Some number → value_by_sign (get_or bytes (length bytes - 1) 0 % 16) signed (number * 10 + get_or bytes (length bytes - 1) 0 / 16) ≡ packed_value bytes digits signed
read-some bytes digits signed number some zeros small is_number =
    sym (ap (option_and_then (value_by_sign (last_half bytes) signed)) (number-at bytes digits some zeros ∙ decimal-push (halves_of (take (length bytes - 1) bytes)) (get_or bytes (length bytes - 1) 0 / 16) number small is_number))

-- ---- writing

power-pairs : (count : ℕ) → 10 ^ (count * 2) ≡ 100 ^ count
power-pairs zero = refl
power-pairs (suc count) =
    let twice : suc count * 2 ≡ suc (suc (count * 2)) = omega arith in
    ap (λ (n : ℕ). 10 ^ n) twice
    ∙ omega (arith, pow-suc 10 (suc (count * 2)), pow-suc 10 (count * 2), pow-suc 100 count, power-pairs count)

two_digits : (y : ℕ) → (y / 10 % 10) * 16 + y % 10 ≡ pair_byte (y % 100)
two_digits y = omega arith

pair-digits : (count number : ℕ) → (number / 10 ^ suc (count * 2) % 10) * 16 + number / 10 ^ (count * 2) % 10 ≡ pair_byte (number / 100 ^ count % 100)
pair-digits count number =
    let power = power-pairs count in
    let high : number / 10 ^ suc (count * 2) ≡ number / 100 ^ count / 10 =
    ap (λ (p : ℕ). number / p) (pow-suc 10 (count * 2) ∙ ap (λ (p : ℕ). p * 10) power) ∙ sym (div-div-eq-div-mul number (100 ^ count) 10) in
    ap₂ (λ (a b : ℕ). (a % 10) * 16 + b % 10) high (ap (λ (p : ℕ). number / p) power)
    ∙ two_digits (number / 100 ^ count)

joined-pairs : (count number high low : ℕ) → joined_halves (low_digits 10 (count * 2) number ++ high ∷ low ∷ []) ≡ map pair_byte (low_digits 100 count number) ++ (high * 16 + low) ∷ []
joined-pairs zero number high low = refl
joined-pairs (suc count) number high low =
    let twice : suc count * 2 ≡ suc (suc (count * 2)) = omega arith in
    ap (λ (n : ℕ). joined_halves (low_digits 10 n number ++ high ∷ low ∷ [])) twice
    ∙ ap₂ ◌∷◌ (pair-digits count number) (joined-pairs count number high low)

-- what fills and the digits are an odd number of digits
filled-digits : (digits number : ℕ) → number < 10 ^ digits → replicate (fill_count digits) 0 ++ low_digits 10 digits number ≡ low_digits 10 (suc (digits / 2 * 2)) number
filled-digits digits number short =
    ⊎_elim
    (λ even.
    let size : suc digits ≡ suc (digits / 2 * 2) = omega (arith, even) in
    ap (λ (n : ℕ). replicate n 0 ++ low_digits 10 digits number) (fill-even digits even)
    ∙ sym (low_digits-short 10 digits number short)
    ∙ ap (λ (n : ℕ). low_digits 10 n number) size)
    (λ odd.
    let size : digits ≡ suc (digits / 2 * 2) = omega (arith, odd) in
    ap (λ (n : ℕ). replicate n 0 ++ low_digits 10 digits number) (fill-odd digits odd)
    ∙ ap (λ (n : ℕ). low_digits 10 n number) size)
    (parity digits)

-- all bytes but the last hold two digits each, and the last a digit and the sign
pub packed_bytes-are : (value : ℤ) (digits : ℕ) (signed : Bool) → unsigned_abs value < 10 ^ digits → packed_bytes value digits signed ≡ map pair_byte (low_digits 100 (digits / 2) (unsigned_abs value / 10)) ++ (unsigned_abs value % 10 * 16 + sign_half value signed) ∷ []
packed_bytes-are value digits signed short =
    let number : ℕ = unsigned_abs value in
    let count : ℕ = digits / 2 in
    let sign : ℕ = sign_half value signed in
    ap (λ (hs : List ℕ). joined_halves (hs ++ sign ∷ [])) (filled-digits digits number short ∙ low_digits-push 10 (count * 2) number)
    ∙ ap joined_halves (append_assoc (low_digits 10 (count * 2) (number / 10)) (number % 10 ∷ []) (sign ∷ []))
    ∙ joined-pairs count (number / 10) (number % 10) sign

pub length-packed_bytes : (value : ℤ) (digits : ℕ) (signed : Bool) → unsigned_abs value < 10 ^ digits → length (packed_bytes value digits signed) ≡ packed_size digits
length-packed_bytes value digits signed short =
    let pairs : List ℕ = low_digits 100 (digits / 2) (unsigned_abs value / 10) in
    let size : length (map pair_byte pairs) ≡ digits / 2 = length-map pairs pair_byte ∙ length-low_digits 100 (digits / 2) (unsigned_abs value / 10) in
    ap length (packed_bytes-are value digits signed short)
    ∙ length_push (map pair_byte pairs) (unsigned_abs value % 10 * 16 + sign_half value signed)
    ∙ ap (λ (n : ℕ). n + 1) size

-- ---- half bytes that are joined, taken apart

halves-joined : (hs : List ℕ) (count : ℕ) → length hs ≡ count * 2 → AllBelowBase 16 hs → halves_of (joined_halves hs) ≡ hs
halves-joined [] count size below = refl
halves-joined (half ∷ []) count size below = absurd (omega arith)
halves-joined (high ∷ low ∷ rest) zero size below = absurd (omega arith)
halves-joined (high ∷ low ∷ rest) (suc count) size below =
    let less : length rest ≡ count * 2 = omega arith in
    ap₂ ◌∷◌ (div-mul-add high 16 low below.1.0) (ap₂ ◌∷◌ (mod-mul-add high 16 low below.1.0) (halves-joined rest count less below.1.1))

below-append : (xs ys : List ℕ) → AllBelowBase 16 xs → AllBelowBase 16 ys → AllBelowBase 16 (xs ++ ys)
below-append [] ys p q = q
below-append (x ∷ xs) ys p q = (p.0, below-append xs ys p.1 q)

below-zeros : (count : ℕ) → AllBelowBase 16 (replicate count 0)
below-zeros zero = tt
below-zeros (suc count) = (lit< tt, below-zeros count)

below-digits : (count number : ℕ) → AllBelowBase 16 (low_digits 10 count number)
below-digits zero number = tt
below-digits (suc count) number =
    let small : number / 10 ^ count % 10 < 10 = mod-lt (number / 10 ^ count) (lit< tt) in
    (omega (arith, small), below-digits count number)

below-sign : (value : ℤ) (signed : Bool) → sign_half value signed < 16
below-sign (pos n) true = lit< tt
below-sign (pos n) false = lit< tt
below-sign (negsuc n) signed = lit< tt

length-packed_halves : (value : ℤ) (digits : ℕ) (signed : Bool) → length (packed_halves value digits signed) ≡ packed_size digits * 2
length-packed_halves value digits signed =
    let number : ℕ = unsigned_abs value in
    let fill : List ℕ = replicate (fill_count digits) 0 in
    let zeros : length fill ≡ fill_count digits = length-replicate (fill_count digits) 0 in
    let places : length (low_digits 10 digits number) ≡ digits = length-low_digits 10 digits number in
    let front = length-append fill (low_digits 10 digits number) in
    let whole = length_push (fill ++ low_digits 10 digits number) (sign_half value signed) in
    let below : digits % 2 < 2 = mod-lt digits (lit< tt) in
    omega (arith, zeros, places, front, whole, below)

-- the half bytes that are written are zeros that fill, the digits, and the sign
pub halves-written : (value : ℤ) (digits : ℕ) (signed : Bool) → halves_of (packed_bytes value digits signed) ≡ packed_halves value digits signed
halves-written value digits signed =
    halves-joined (packed_halves value digits signed) (packed_size digits) (length-packed_halves value digits signed)
    (below-append (replicate (fill_count digits) 0 ++ low_digits 10 digits (unsigned_abs value)) (sign_half value signed ∷ [])
    (below-append (replicate (fill_count digits) 0) (low_digits 10 digits (unsigned_abs value)) (below-zeros (fill_count digits)) (below-digits digits (unsigned_abs value)))
    (below-sign value signed, tt))

-- ---- half bytes that spell a value

all-zeros : (count : ℕ) → list_all (λ half. half == 0) (replicate count 0) ≡ true
all-zeros zero = refl
all-zeros (suc count) = all-zeros count

all-digits : (count number : ℕ) → list_all (λ digit. nat_le digit 9) (low_digits 10 count number) ≡ true
all-digits zero number = refl
all-digits (suc count) number =
    let small : number / 10 ^ count % 10 < 10 = mod-lt (number / 10 ^ count) (lit< tt) in
    ap₂ (λ (p q : Bool). p && q) (le-leb (number / 10 ^ count % 10) 9 (omega (arith, small))) (all-digits count number)

pub packed-spelled : (bytes : List ℕ) (digits : ℕ) (signed : Bool) (sign number : ℕ) → 0 < length bytes → number < 10 ^ digits → halves_of bytes ≡ replicate (fill_count digits) 0 ++ low_digits 10 digits number ++ sign ∷ [] → packed_value bytes digits signed ≡ value_by_sign sign signed number
packed-spelled bytes digits signed sign number some short e =
    let zeros : List ℕ = replicate (fill_count digits) 0 in
    let places : List ℕ = low_digits 10 digits number in
    let hs : number_halves bytes ≡ zeros ++ places = number_halves-at bytes (zeros ++ places) sign e in
    let count : length zeros ≡ fill_count digits = length-replicate (fill_count digits) 0 in
    let is_number : packed_number bytes digits ≡ Some number =
    ap (filled_number (fill_count digits)) hs
    ∙ ap₂ (λ (p q : List ℕ). if list_all (λ half. half == 0) p then decimal_number q else None) (take_at zeros places (fill_count digits) count) (drop_at zeros places (fill_count digits) count)
    ∙ ap (λ (t : Bool). if t then decimal_number places else None) (all-zeros (fill_count digits))
    ∙ ap₂ (λ (t : Bool) (n : ℕ). if t then Some n else None) (all-digits digits number) (number-low_digits 10 digits number (lit< tt) short) in
    ap₂ (λ (s : ℕ) (o : Option ℕ). option_and_then (value_by_sign s signed) o) (last_half-at bytes (zeros ++ places) sign some e) is_number

sign-back : (value : ℤ) (signed : Bool) → (signed ≡ false → pos 0 ≤ℤ value) → value_by_sign (sign_half value signed) signed (unsigned_abs value) ≡ Some value
sign-back (pos n) true held = refl
sign-back (pos n) false held = refl
sign-back (negsuc n) true held = refl
sign-back (negsuc n) false held = let h : pos 0 ≤ℤ negsuc n = held refl in absurd (omega (arith, ints))

pub packed-back : (value : ℤ) (digits : ℕ) (signed : Bool) → IsHeld value digits signed → packed_value (packed_bytes value digits signed) digits signed ≡ Some value
packed-back value digits signed held =
    let size : length (packed_bytes value digits signed) ≡ packed_size digits = length-packed_bytes value digits signed held.short in
    packed-spelled (packed_bytes value digits signed) digits signed (sign_half value signed) (unsigned_abs value) (omega (arith, size)) held.short (halves-written value digits signed)
    ∙ sign-back value signed held.sign

-- the last byte is written behind the others
pub put-last : (front into : List ℕ) (byte : ℕ) → 0 < length into → length front ≡ length into - 1 → set (front ++ drop (length into - 1) into) (length into - 1) byte ≡ front ++ byte ∷ []
put-last front into byte some size =
    let last : ℕ = length into - 1 in
    let rest : drop last into ≡ get_or into last 0 ∷ [] =
    drop_more into last 0 (omega arith) ∙ ap (λ (xs : List ℕ). get_or into last 0 ∷ xs) (drop_all (last + 1) into (omega arith)) in
    ap (λ (xs : List ℕ). set (front ++ xs) last byte) rest ∙ set_at front (get_or into last 0) [] byte last size
