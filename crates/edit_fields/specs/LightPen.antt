-- What is enough of a pen along a mask, where the shape of the symbols isn't needed. That these
-- bytes are the ones of specs/Edited is the law `LightPensAreEnough`.
use Rattle.std.specs.Prelude.{ℕ, ◌≡◌, ◌≤◌, ◌+◌, ◌-◌, Bool, true, false, not, ◌==◌, ◌&&◌, ◌||◌, List, [], ◌∷◌, ◌++◌, length, take, drop, set, Option, Some, None, slice_get, if◌then◌else◌}
use Rattle.std.specs.Char.{to_ascii_uppercase}
use Rattle.edit_fields.specs.declared.field.Field.{Field}
use Rattle.edit_fields.specs.declared.light_pen.Reached.{Reached}
use Rattle.edit_fields.specs.Symbol.{is_currency_or_sign, is_sign, is_tail_letter, space, symbol_9, symbol_b, symbol_d, symbol_period, symbol_r, symbol_v}
use Rattle.edit_fields.specs.Field.{digit_of}
use Rattle.edit_fields.specs.Edited.{blank_byte, hidden_byte, letter_byte, shown_size, sign_byte, with_byte}

-- what is known of the places up to one, without their shape
pub record LightPen : Type 0 where
  -- the last symbol
  pub last : ℕ
  -- how many digits there are to the right
  pub right : ℕ
  -- the suppression string has begun
  pub begun : Bool
  -- the first shown place was reached
  pub shown : Bool

-- before the first symbol, where all digits are to the right
abbrev pub light_start : Field → LightPen
light_start field = record { last = 0; right = field.digits; begun = false; shown = false }

-- ---- one symbol more

-- a 9, or a symbol of the string, but for the first of one that floats
abbrev pub is_counted : Field → ℕ → Bool → Bool
is_counted field symbol begun =
    if symbol == field.string then begun || not (is_currency_or_sign field.string)
    else symbol == symbol_9

-- the digits to the right, behind a symbol that may be one
abbrev pub right_behind : Bool → ℕ → ℕ
right_behind counted right = if counted then right - 1 else right

-- in the string a digit that isn't zero; a 9, the period, or the place after V
abbrev pub is_seen : Field → ℕ → Bool → ℕ → Bool
is_seen field symbol counted right =
    if symbol == field.string then counted && not (digit_of right field.number == 0)
    else symbol == symbol_9 || symbol == symbol_period || symbol == symbol_v

-- after a symbol that is a digit or isn't
abbrev pub passed_counted : Field → ℕ → LightPen → Bool → LightPen
passed_counted field symbol pen counted = record {
  last = symbol;
  right = right_behind counted pen.right;
  begun = pen.begun || symbol == field.string;
  shown = pen.shown || is_seen field symbol counted (right_behind counted pen.right);
}

-- after one symbol more
abbrev pub light_passed : Field → ℕ → LightPen → LightPen
light_passed field symbol pen =
    passed_counted field symbol pen (is_counted field symbol pen.begun)

-- whether the next place is shown
abbrev pub light_shows : Field → LightPen → Option ℕ → Bool
light_shows field pen None = false
light_shows field pen (Some byte) = (light_passed field (to_ascii_uppercase byte) pen).shown

-- ---- bytes

-- C, D, R, and the B behind a D
abbrev pub is_letter : ℕ → ℕ → Bool
is_letter last symbol =
    is_tail_letter symbol || symbol == symbol_r || (symbol == symbol_b && last == symbol_d)

-- a symbol that is no digit, where it is shown
abbrev pub other_byte : Field → ℕ → ℕ → ℕ
other_byte field last symbol =
    if is_sign symbol then sign_byte field.minus symbol else
    if is_letter last symbol then letter_byte field symbol else
    if symbol == symbol_b then space else symbol

-- a symbol where it is shown: with so many digits to its right, or behind the last symbol
abbrev pub shown_by : Field → Bool → ℕ → ℕ → ℕ → ℕ
shown_by field counted right last symbol =
    if counted then 48 + digit_of right field.number else other_byte field last symbol

-- the same by the pen before it
abbrev pub light_shown : Field → ℕ → LightPen → ℕ
light_shown field symbol pen =
    shown_by field (is_counted field symbol pen.begun) (light_passed field symbol pen).right
    pen.last symbol

-- a symbol left of the first shown place, where the next place isn't that
abbrev pub left_byte : Field → Bool → ℕ → ℕ → ℕ
left_byte field begun last symbol =
    if begun then hidden_byte field false else other_byte field last symbol

-- blank, hidden left of the first shown place in the string, or shown
abbrev pub light_byte : Field → ℕ → LightPen → Bool → ℕ
light_byte field symbol pen next =
    if field.blank then blank_byte field symbol else
    if (light_passed field symbol pen).begun && not (light_passed field symbol pen).shown
    then hidden_byte field next else light_shown field symbol pen

-- where this is the next symbol
abbrev pub light_byte_of : Field → ℕ → LightPen → Option ℕ → ℕ
light_byte_of field symbol pen next =
    light_byte field symbol pen (light_shows field (light_passed field symbol pen) next)

-- the bytes of the rest
unfoldable pub light_written : Field → LightPen → List ℕ → List ℕ
light_written field pen [] = []
light_written field pen (byte ∷ rest) =
    with_byte (to_ascii_uppercase byte)
    (light_byte_of field (to_ascii_uppercase byte) pen (slice_get rest 0))
    (light_written field (light_passed field (to_ascii_uppercase byte) pen) rest)

-- the bytes of a field of which nothing is shown
unfoldable pub blank_written : Field → List ℕ → List ℕ
blank_written field [] = []
blank_written field (byte ∷ rest) =
    with_byte (to_ascii_uppercase byte) (blank_byte field (to_ascii_uppercase byte))
    (blank_written field rest)

-- ---- the first shown place

-- the bytes before it, where in the string the last one may float
abbrev pub floated : Field → Bool → ℕ → List ℕ → List ℕ
floated field begun place into =
    if begun then set into (place - 1) (hidden_byte field true) else into

-- the pen from which all is shown
abbrev pub pen_of : Reached → LightPen
pen_of reached = record {
  last = reached.last;
  right = reached.right;
  begun = reached.begun;
  shown = true;
}

-- the bytes to the left of the place are there, and there is room for the others
pub record IsReached (field : Field) (mask into : List ℕ) (reached : Reached) : Type 0 where
  pub bytes : light_written field (light_start field) mask
      ≡ take reached.place into ++ light_written field (pen_of reached) (drop reached.place mask)
  pub room : reached.place + shown_size (drop reached.place mask) ≡ length into
  pub within : reached.place ≤ length mask
