-- A packed item: a half byte for each digit, and one for the sign after them.
use Rattle.std.specs.Prelude.{ℕ, ◌+◌, ◌-◌, ◌*◌, ◌/◌, ◌%◌, Bool, true, false, ◌&&◌, ◌||◌, ◌==◌, List, [], ◌∷◌, ◌++◌, length, take, drop, replicate, slice_index, Option, Some, None, ℤ, pos, negsuc, neg_ℤ, unsigned_abs, nat_le, if◌then◌else◌}
use Rattle.std.specs.List.{list_all}
use Rattle.std.specs.Option.{option_and_then}
use Rattle.std.specs.Int.Digits.{number_from_digits}
use Rattle.stored_forms.specs.Places.{low_digits}

-- half the number of digits, cut, and one byte more
abbrev pub packed_size : ℕ → ℕ
packed_size digits = digits / 2 + 1

-- how many half bytes fill the front: with the sign, an even number of digits needs one
abbrev pub fill_count : ℕ → ℕ
fill_count digits = 1 - digits % 2

-- the half bytes for a sign
abbrev pub plus_half : ℕ
plus_half = 0xC

-- of a number below zero
abbrev pub minus_half : ℕ
minus_half = 0xD

-- of an item without a sign
abbrev pub unsigned_half : ℕ
unsigned_half = 0xF

-- ---- writing

-- C for a signed value that isn't negative, D for a negative one, and F where there is no sign
abbrev pub sign_half : ℤ → Bool → ℕ
sign_half (pos _) true = plus_half
sign_half (pos _) false = unsigned_half
sign_half (negsuc _) _ = minus_half

-- zeros that fill, the digits, and the sign
abbrev pub packed_halves : ℤ → ℕ → Bool → List ℕ
packed_halves value digits signed =
    replicate (fill_count digits) 0 ++ low_digits 10 digits (unsigned_abs value)
    ++ sign_half value signed ∷ []

-- two digits in a byte
abbrev pub pair_byte : ℕ → ℕ
pair_byte pair = pair / 10 * 16 + pair % 10

-- the bytes that half bytes make, two each, the high one first
abbrev pub joined_halves : List ℕ → List ℕ
joined_halves [] = []
joined_halves (_ ∷ []) = []
joined_halves (high ∷ low ∷ rest) = (high * 16 + low) ∷ joined_halves rest

-- the bytes in which the item stores the value
abbrev pub packed_bytes : ℤ → ℕ → Bool → List ℕ
packed_bytes value digits signed = joined_halves (packed_halves value digits signed)

-- ---- reading

-- the half bytes of bytes, the high one of each first
abbrev pub halves_of : List ℕ → List ℕ
halves_of [] = []
halves_of (byte ∷ rest) = (byte / 16) ∷ (byte % 16) ∷ halves_of rest

-- all half bytes but the last, which is the sign
abbrev pub number_halves : List ℕ → List ℕ
number_halves bytes = take (length (halves_of bytes) - 1) (halves_of bytes)

-- the half byte of the sign
abbrev pub last_half : List ℕ → ℕ
last_half bytes = slice_index bytes (length bytes - 1) % 16

-- the number that digits are, where none is above 9
abbrev pub decimal_number : List ℕ → Option ℕ
decimal_number digits =
    if list_all (λ digit. nat_le digit 9) digits then Some (number_from_digits 10 digits)
    else None

-- the number in the bytes, where what fills is 0
abbrev pub packed_number : List ℕ → ℕ → Option ℕ
packed_number bytes digits =
    if list_all (λ half. half == 0) (take (fill_count digits) (number_halves bytes))
    then decimal_number (drop (fill_count digits) (number_halves bytes))
    else None

-- the number with its sign: C and F aren't negative, D is, and only a signed item has it
abbrev pub value_by_sign : ℕ → Bool → ℕ → Option ℤ
value_by_sign sign signed number =
    if (sign == plus_half) || (sign == unsigned_half) then Some (pos number)
    else (if (sign == minus_half) && signed then Some (neg_ℤ (pos number)) else None)

-- the value that the item stores, where its half bytes are of these rules
abbrev pub packed_value : List ℕ → ℕ → Bool → Option ℤ
packed_value bytes digits signed =
    option_and_then (value_by_sign (last_half bytes) signed) (packed_number bytes digits)
