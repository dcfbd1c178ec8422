-- A mask whose counts are written out, as a whole, and a number that is cut to its digits.
use Rattle.std.specs.Prelude.{◌≡◌, ℕ, zero, suc, ◌+◌, ◌/◌, ◌%◌, ◌≤◌, false, not, ◌==◌, ◌&&◌, ℤ, unsigned_abs, List, [], ◌∷◌, None, unwrap_or, IsTrue}
use Rattle.std.specs.Char.{to_ascii_uppercase}
use Rattle.std.specs.Int.{is_negative}
use Rattle.cob_num.specs.declared.number.Dec.{Dec}
use Rattle.cob_num.specs.Storing.{stored_of}
use Rattle.edit_fields.specs.declared.shape.Shape.{Shape}
use Rattle.edit_fields.specs.declared.field.Digits.{Digits}
use Rattle.edit_fields.specs.declared.field.Field.{Field}
use Rattle.edit_fields.specs.Shape.{behind, digits, empty}
use Rattle.edit_fields.specs.Reading.{is_written_out, mask_fault_of}

-- the text is a mask, and has no counts
pub record IsMask (mask : List ℕ) : Type 0 where
  pub no_fault : mask_fault_of mask ≡ None
  -- it has no counts
  pub written_out : IsTrue (is_written_out mask)

-- the symbols so far with one more; where it may not come, they stay
abbrev pub moved : ℕ → Shape → Shape
moved symbol shape = unwrap_or (behind symbol shape) shape

-- the symbols so far with those of the rest
unfoldable pub shape_from : Shape → List ℕ → Shape
shape_from shape [] = shape
shape_from shape (byte ∷ rest) = shape_from (moved (to_ascii_uppercase byte) shape) rest

-- all symbols of a mask
abbrev pub shape_of : List ℕ → Shape
shape_of mask = shape_from empty mask

-- how many digits a mask has left and right of the point
abbrev pub digits_of : List ℕ → Digits
digits_of mask = record { whole = (shape_of mask).whole; part = (shape_of mask).part }

-- as many digits as a number has
pub record IsNumber (whole part : ℕ) : Type 0 where
  pub some_digits : 1 ≤ whole + part
  pub few_digits : whole + part ≤ 18

-- ---- the number

-- what is left of the value where it is cut to the mask's digits, as MOVE cuts
abbrev pub cut : Dec → Shape → ℤ
cut value shape = (stored_of value (digits shape) shape.part false).value

-- a mask without 9 shows nothing of zero
abbrev pub field_of : Dec → Shape → Field
field_of value shape = record {
  string = shape.string;
  digits = digits shape;
  number = unsigned_abs (cut value shape);
  minus = is_negative (cut value shape);
  blank = not shape.nines && unsigned_abs (cut value shape) == 0;
}

-- the digit that has so many digits to the right of it
abbrev pub digit_of : ℕ → ℕ → ℕ
digit_of zero number = number % 10
digit_of (suc right) number = digit_of right (number / 10)

-- so many digits of a number, from the right
unfoldable pub numerals : ℕ → ℕ → List ℕ
numerals zero number = []
numerals (suc count) number = number % 10 ∷ numerals count (number / 10)
