-- Whether a literal fits an item: there are numbers and texts, and a number fits by its value.
use Rattle.std.specs.Prelude.{ℕ, ◌-◌, Bool, true, false, not, ◌&&◌, ◌||◌, ◌==◌, nat_le, List, length, take, drop, position, Option, Some, None, if◌then◌else◌}
use Rattle.std.specs.List.{list_all}
use Rattle.cob_base.specs.Bytes.{digit_0}
use Rattle.cob_tree.specs.declared.number.Number.{Number}
use Rattle.cob_tree.specs.declared.picture.Picture.{Picture}
use Rattle.cob_tree.specs.declared.picture.Picture.TheVariants as pictures
use Rattle.cob_tree.specs.declared.place.Figure.TheVariants as figures
use Rattle.cob_tree.specs.declared.place.Operand.{Operand}
use Rattle.cob_tree.specs.declared.place.Operand.TheVariants as operands
use Rattle.declaration_checks.specs.declared.literal.LiteralTarget.{LiteralTarget}

-- the digit is zero
abbrev pub is_zero : ℕ → Bool
is_zero digit = digit == digit_0

-- the digit isn't zero
abbrev pub is_more : ℕ → Bool
is_more digit = not (is_zero digit)

-- the digits of a number before its decimal point
abbrev pub whole_digits : Number → List ℕ
whole_digits number = take (length number.digits - number.scale) number.digits

-- the digits after the decimal point
abbrev pub part_digits : Number → List ℕ
part_digits number = drop (length number.digits - number.scale) number.digits

-- how many digits there are from the first on that isn't zero
abbrev pub digits_from : List ℕ → Option ℕ → ℕ
digits_from digits None = 0
digits_from digits (Some at) = length digits - at

-- how many digits there are without the zeros in front
abbrev pub leading_digits : List ℕ → ℕ
leading_digits digits = digits_from digits (position is_more digits)

-- the number fits such an item: no digit but zeros would be lost, nor the sign of a number that
-- isn't zero
abbrev pub number_fits : Number → (signed : Bool) → (whole part : ℕ) → Bool
number_fits number signed whole part =
    nat_le (leading_digits (whole_digits number)) whole
    && (list_all is_zero (drop part (part_digits number))
    && (signed || (not number.negative || list_all is_zero number.digits)))

-- a literal fits a number item: it is a number that does, or ZERO
abbrev pub fits_number : Operand → (signed : Bool) → (whole part : ℕ) → Bool
fits_number (operands.Number number) signed whole part = number_fits number signed whole part
fits_number (operands.Figure figures.Zero) signed whole part = true
fits_number _ signed whole part = false

-- a text of at most so many bytes, or a figurative constant
abbrev pub fits_text : Operand → ℕ → Bool
fits_text (operands.Text text) size = nat_le (length text) size
fits_text (operands.Figure figure) size = true
fits_text _ size = false

-- the literal fits an item with this picture; where there is none, that is the fault
abbrev pub fits_picture : Operand → Option Picture → ℕ → Bool
fits_picture literal None size = true
fits_picture literal (Some (pictures.Number signed whole part)) size =
    fits_number literal signed whole part
fits_picture literal (Some _) size = fits_text literal size

-- the literal fits: an item by its picture, a group by its size
abbrev pub fits : Operand → LiteralTarget → Bool
fits literal target =
    if target.group then fits_text literal target.size
    else fits_picture literal target.picture target.size
