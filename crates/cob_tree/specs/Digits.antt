-- The number that digits spell.
use Rattle.std.specs.Prelude.{ℕ, ◌+◌, ◌-◌, ◌*◌, Bool, ◌&&◌, if◌then◌else◌, nat_le, List, [], ◌∷◌, length, Option, Some, None}

-- the byte is a digit
abbrev pub is_digit : ℕ → Bool
is_digit byte = nat_le 48 byte && nat_le byte 57

-- the number that these digits spell after a number
abbrev pub digits_after : ℕ → List ℕ → Option ℕ
digits_after number [] = Some number
digits_after number (byte ∷ bytes) =
    if is_digit byte then digits_after (number * 10 + (byte - 48)) bytes else None

-- the number of at most 18 digits
abbrev pub digits_value : List ℕ → Option ℕ
digits_value bytes = if nat_le (length bytes) 18 then digits_after 0 bytes else None
