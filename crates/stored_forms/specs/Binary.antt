-- A binary item: its value in two's complement, the highest byte first.
use Rattle.std.specs.Prelude.{ℕ, suc, ◌-◌, ◌*◌, ◌^◌, Bool, List, length, Option, Some, None, ℤ, pos, negsuc, ◌-ℤ◌, nat_lt, nat_le, if◌then◌else◌}
use Rattle.std.specs.Int.Digits.{number_from_digits}
use Rattle.stored_forms.specs.Item.{is_held}
use Rattle.stored_forms.specs.Places.{low_digits}

-- 2 bytes for 1 to 4 digits, 4 for 5 to 9, and 8 for 10 to 18
abbrev pub binary_size : ℕ → ℕ
binary_size digits = if nat_le digits 4 then 2 else (if nat_le digits 9 then 4 else 8)

-- ---- writing

-- the value in two's complement of so many bytes: below zero it counts down from all they can tell
abbrev pub twos_complement : ℕ → ℤ → ℕ
twos_complement size (pos number) = number
twos_complement size (negsuc number) = 256 ^ size - suc number

-- the bytes in which the item stores the value, the highest first
abbrev pub binary_bytes : ℤ → ℕ → List ℕ
binary_bytes value digits =
    low_digits 256 (binary_size digits) (twos_complement (binary_size digits) value)

-- ---- reading

-- the value that a number is in two's complement: below zero where its highest bit is set
abbrev pub signed_number : ℕ → ℕ → ℤ
signed_number size number =
    if nat_lt (2 * number) (256 ^ size) then pos number else pos number -ℤ pos (256 ^ size)

-- the value that bytes are in two's complement, where the item holds it
abbrev pub binary_value : List ℕ → ℕ → Bool → Option ℤ
binary_value bytes digits signed =
    let value = signed_number (length bytes) (number_from_digits 256 bytes) in
    if is_held value digits signed then Some value else None
