-- What a number item holds, whatever its form.
use Rattle.std.specs.Prelude.{ℕ, ◌^◌, ◌<◌, Bool, ◌&&◌, ◌||◌, ℤ, pos, ◌≤ℤ◌, int_le, unsigned_abs, nat_lt, IsFalse}

-- a value of at most its digits, and none below zero where it has no sign
pub record IsHeld (value : ℤ) (digits : ℕ) (signed : Bool) : Type 0 where
  pub short : unsigned_abs value < 10 ^ digits
  pub sign : IsFalse signed → pos 0 ≤ℤ value

-- that as a test
abbrev pub is_held : ℤ → ℕ → Bool → Bool
is_held value digits signed =
    nat_lt (unsigned_abs value) (10 ^ digits) && (signed || int_le (pos 0) value)
