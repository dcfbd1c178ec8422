-- What comes before the number of a numbered word.
use Rattle.std.specs.Prelude.{ℕ, ◌<◌, ◌≤◌, Bool, ◌||◌, ◌&&◌, ◌==◌, nat_le, IsTrue, List, length, All, slice_index}

-- the byte is a capital letter
abbrev pub is_capital : ℕ → Bool
is_capital b = nat_le 65 b && nat_le b 90

-- the byte is a digit
abbrev pub is_decimal : ℕ → Bool
is_decimal b = nat_le 48 b && nat_le b 57

-- a capital, a digit or a hyphen
abbrev pub stem_byte : ℕ → Bool
stem_byte b = is_capital b || is_decimal b || b == 45

-- the bytes are a stem: at most twenty capitals, digits and hyphens, of which the first is a
-- capital
pub record IsStem (bytes : List ℕ) : Type 0 where
  -- there is a byte
  pub begun : 0 < length bytes
  pub short : length bytes ≤ 20
  -- each is a capital, a digit or a hyphen
  pub spelled : All (λ b. IsTrue (stem_byte b)) bytes
  pub first : IsTrue (is_capital (slice_index bytes 0))
