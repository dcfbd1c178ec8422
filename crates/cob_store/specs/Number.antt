-- Numbers as the bytes of an item spell them: digits, with a sign within the last one or beside; or
-- binary, or packed.
use Rattle.std.specs.Prelude.{ℕ, zero, suc, ◌+◌, ◌-◌, ◌*◌, ◌/◌, ◌%◌, ◌^◌, min, Bool, true, false, ◌&&◌, if◌then◌else◌, nat_le, ◌==◌, ℤ, pos, neg_ℤ, unsigned_abs, List, [], ◌∷◌, ◌++◌, length, take, drop, replicate, slice_index, Option, Some, None, option_map, option_and_then}
use Rattle.std.specs.Int.{is_negative}
use Rattle.stored_forms.specs.Binary.{binary_bytes, binary_size, binary_value}
use Rattle.stored_forms.specs.Packed.{packed_bytes, packed_size, packed_value}
use Rattle.cob_tree.specs.Digits.{is_digit, digits_value}
use Rattle.cob_tree.specs.declared.picture.Sign.{Sign}
use Rattle.cob_tree.specs.declared.picture.Sign.TheVariants.{Within, SeparateLeading, SeparateTrailing}
use Rattle.cob_tree.specs.declared.picture.Usage.{Usage}
use Rattle.cob_tree.specs.declared.picture.Usage.TheVariants as usages
use Rattle.cob_store.specs.declared.area.Storage.{Storage}
use Rattle.cob_store.specs.declared.area.Storage.TheVariants.{Digits, Binary, Packed}

-- ---- how it is stored

-- how many digits a number has; past the last number of 8 bits it counts as that number
abbrev pub digit_count : ℕ → ℕ → ℕ
digit_count whole part = min (whole + part) (2 ^ 8 - 1)

-- how a number of so many digits is stored, by its USAGE and SIGN
abbrev pub storage_of : Sign → Usage → ℕ → Storage
storage_of sign usages.Display digits = Digits sign
storage_of sign usages.Binary digits = Binary digits
storage_of sign usages.Packed digits = Packed digits

-- an item of so many digits, 1 to 18, has so many bytes
abbrev pub is_stored : (size : ℕ → ℕ) → ℕ → ℕ → Bool
is_stored size digits places = nat_le 1 digits && nat_le digits 18 && places == size digits

-- ---- reading

-- all bytes but the last
abbrev pub front : List ℕ → List ℕ
front bytes = take (length bytes - 1) bytes

-- the last byte
abbrev pub last : List ℕ → ℕ
last bytes = slice_index bytes (length bytes - 1)

-- this number, if there is one
abbrev pub positive : Option ℕ → Option ℤ
positive = option_map (λ number. pos number)

-- this number below zero, if there is one
abbrev pub negative : Option ℕ → Option ℤ
negative = option_map (λ number. neg_ℤ (pos number))

-- the byte is one of p to y, as the last digit of a negative number is
abbrev pub is_overpunched : ℕ → Bool
is_overpunched byte = nat_le 112 byte && nat_le byte 121

-- the number of digits whose last one may hold a minus sign
abbrev pub within : List ℕ → Option ℤ
within bytes =
    if is_overpunched (last bytes)
    then negative (option_and_then (λ number.
    Some (number * 10 + (last bytes - 112))) (digits_value (front bytes)))
    else positive (digits_value bytes)

-- + or -
abbrev pub beside : ℕ → Option ℕ → Option ℤ
beside sign number =
    if sign == 43 then positive number else (if sign == 45 then negative number else None)

-- the number of a DISPLAY item that is signed or not; none where its bytes aren't its digits and
-- sign
abbrev pub displayed_number : Bool → Sign → List ℕ → Option ℤ
displayed_number false sign bytes = positive (digits_value bytes)
displayed_number true Within bytes = within bytes
displayed_number true SeparateLeading bytes =
    beside (slice_index bytes 0) (digits_value (drop 1 bytes))
displayed_number true SeparateTrailing bytes = beside (last bytes) (digits_value (front bytes))

-- the number of an item that is signed or not; none where its bytes are none that it stores
abbrev pub number_in : Bool → Storage → List ℕ → Option ℤ
number_in signed (Digits sign) bytes = displayed_number signed sign bytes
number_in signed (Binary digits) bytes =
    if is_stored binary_size digits (length bytes) then binary_value bytes digits signed else None
number_in signed (Packed digits) bytes =
    if is_stored packed_size digits (length bytes) then packed_value bytes digits signed else None

-- ---- writing

-- the digits of a number in so many places, the last ones where there are more
abbrev pub padded : ℕ → ℕ → List ℕ
padded zero number = []
padded (suc places) number = padded places (number / 10) ++ (48 + number % 10) ∷ []

-- the digits of a negative number, whose last one holds the sign
abbrev pub overpunched : ℕ → ℕ → List ℕ
overpunched zero number = []
overpunched (suc places) number = padded places (number / 10) ++ (112 + number % 10) ∷ []

-- the minus or plus sign
abbrev pub sign_byte : Bool → ℕ
sign_byte minus = if minus then 45 else 43

-- the sign, and then the digits
abbrev pub leading : ℕ → Bool → ℕ → List ℕ
leading zero minus number = []
leading (suc places) minus number = sign_byte minus ∷ padded places number

-- the digits, and then the sign
abbrev pub trailing : ℕ → Bool → ℕ → List ℕ
trailing zero minus number = []
trailing (suc places) minus number = padded places number ++ sign_byte minus ∷ []

-- the bytes of a number, below zero or not, in a DISPLAY item of that length that is signed or not
abbrev pub displayed_bytes : Bool → Sign → ℕ → Bool → ℕ → List ℕ
displayed_bytes false sign places minus number = padded places number
displayed_bytes true Within places minus number =
    if minus then overpunched places number else padded places number
displayed_bytes true SeparateLeading places minus number = leading places minus number
displayed_bytes true SeparateTrailing places minus number = trailing places minus number

-- what an item of so many digits holds of a number: its low digits, and its sign where it has one
abbrev pub held_number : Bool → ℕ → Bool → ℕ → ℤ
held_number signed digits minus number =
    if signed && minus then neg_ℤ (pos (number % 10 ^ digits)) else pos (number % 10 ^ digits)

-- the bytes of a number, below zero or not, in an item of that length that is signed or not; no
-- item has another length than its storage wants
abbrev pub signed_bytes : Bool → Storage → ℕ → Bool → ℕ → List ℕ
signed_bytes signed (Digits sign) places minus number =
    displayed_bytes signed sign places minus number
signed_bytes signed (Binary digits) places minus number =
    if is_stored binary_size digits places
    then binary_bytes (held_number signed digits minus number) digits
    else replicate places 0
signed_bytes signed (Packed digits) places minus number =
    if is_stored packed_size digits places
    then packed_bytes (held_number signed digits minus number) digits signed
    else replicate places 0

-- the bytes of a number in an item of that length
abbrev pub number_bytes : Bool → Storage → ℕ → ℤ → List ℕ
number_bytes signed storage places number =
    signed_bytes signed storage places (is_negative number) (unsigned_abs number)
