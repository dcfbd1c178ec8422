-- What a number shows through a mask whose counts are written out, symbol by symbol.
use Rattle.std.specs.Prelude.{ℕ, ◌+◌, ◌-◌, Bool, true, false, not, ◌==◌, ◌&&◌, ◌||◌, List, [], ◌∷◌, Option, Some, None, slice_get, if◌then◌else◌}
use Rattle.std.specs.Char.{to_ascii_uppercase}
use Rattle.cob_num.specs.declared.number.Dec.{Dec}
use Rattle.edit_fields.specs.declared.shape.Stage.{Stage}
use Rattle.edit_fields.specs.declared.shape.Stage.TheVariants as stages
use Rattle.edit_fields.specs.declared.shape.Shape.{Shape}
use Rattle.edit_fields.specs.declared.field.Field.{Field}
use Rattle.edit_fields.specs.declared.edited.Pen.{Pen}
use Rattle.edit_fields.specs.Symbol.{is_currency_or_sign, is_sign, is_suppressor, space, symbol_9, symbol_b, symbol_dollar, symbol_minus, symbol_period, symbol_plus, symbol_star, symbol_v}
use Rattle.edit_fields.specs.Shape.{digits, empty}
use Rattle.edit_fields.specs.Field.{digit_of, field_of, moved, shape_of}

-- ---- where the digits are

-- within the suppression string, after its first symbol where that floats
abbrev pub is_string : Stage → Bool
is_string stages.InString = true
is_string _ = false

-- the symbol has a digit: 9, Z, `*`, and of one that floats all but the first
abbrev pub has_digit : ℕ → Shape → Bool
has_digit symbol behind =
    symbol == symbol_9 || is_suppressor symbol
    || (is_currency_or_sign symbol && is_string behind.stage)

-- the digit of a symbol, after which the mask is this
abbrev pub digit_at : Field → Shape → ℕ
digit_at field behind = digit_of (field.digits - digits behind) field.number

-- ---- from the left

-- there is nothing to the left of the first symbol
abbrev pub at_start : Pen
at_start = record { shape = empty; begun = false; shown = false }

-- the first shown place: a digit that isn't zero, a 9, the period, or the place after V
abbrev pub is_shown : Field → ℕ → Shape → Bool
is_shown field symbol behind =
    symbol == symbol_9 || symbol == symbol_period || symbol == symbol_v
    || (has_digit symbol behind && not (digit_at field behind == 0))

-- the suppression string begins at its first symbol
abbrev pub passed_to : Field → ℕ → Pen → Shape → Pen
passed_to field symbol pen behind = record {
  shape = behind;
  begun = pen.begun || symbol == field.string;
  shown = pen.shown || is_shown field symbol behind;
}

-- after one symbol more
abbrev pub passed : Field → ℕ → Pen → Pen
passed field symbol pen = passed_to field symbol pen (moved symbol pen.shape)

-- whether the next place is shown
abbrev pub shows_next : Field → Pen → Option ℕ → Bool
shows_next field pen None = false
shows_next field pen (Some byte) = (passed field (to_ascii_uppercase byte) pen).shown

-- ---- the byte of a symbol

-- where nothing is shown there are spaces; or asterisks, with the period among them
abbrev pub blank_byte : Field → ℕ → ℕ
blank_byte field symbol =
    if not (field.string == symbol_star) then space else
    if symbol == symbol_period then symbol_period else symbol_star

-- a sign - is shown where the number is negative, a sign + turns into it there
abbrev pub sign_byte : Bool → ℕ → ℕ
sign_byte minus sign =
    if minus then symbol_minus else if sign == symbol_plus then symbol_plus else space

-- what floats
abbrev pub float_byte : Field → ℕ
float_byte field =
    if field.string == symbol_dollar then symbol_dollar else sign_byte field.minus field.string

-- in the string, left of the first shown place: what floats is directly left of that place
abbrev pub hidden_byte : Field → Bool → ℕ
hidden_byte field next =
    if is_currency_or_sign field.string && next then float_byte field else
    if field.string == symbol_star then symbol_star else space

-- the tail, whose letters are there where the number is negative
abbrev pub is_tail : Stage → Bool
is_tail (stages.Letter letter) = true
is_tail stages.Ended = true
is_tail _ = false

-- a letter of the tail
abbrev pub letter_byte : Field → ℕ → ℕ
letter_byte field letter = if field.minus then letter else space

-- a digit, a sign, a letter of the tail, or an insertion, of which B is a space
abbrev pub shown_byte : Field → ℕ → Shape → ℕ
shown_byte field symbol behind =
    if has_digit symbol behind then 48 + digit_at field behind else
    if is_sign symbol then sign_byte field.minus symbol else
    if is_tail behind.stage then letter_byte field symbol else
    if symbol == symbol_b then space else symbol

-- blank, hidden left of the first shown place in the string, or shown
abbrev pub byte_by : Field → ℕ → Pen → Bool → ℕ
byte_by field symbol pen next =
    if field.blank then blank_byte field symbol else
    if pen.begun && not pen.shown then hidden_byte field next
    else shown_byte field symbol pen.shape

-- where this is the next symbol
abbrev pub byte_of : Field → ℕ → Pen → Option ℕ → ℕ
byte_of field symbol pen next = byte_by field symbol pen (shows_next field pen next)

-- ---- all bytes

-- a V has no byte
abbrev pub with_byte : ℕ → ℕ → List ℕ → List ℕ
with_byte symbol byte bytes = if symbol == symbol_v then bytes else byte ∷ bytes

-- the bytes of the rest
unfoldable pub written : Field → Pen → List ℕ → List ℕ
written field pen [] = []
written field pen (byte ∷ rest) =
    with_byte (to_ascii_uppercase byte)
    (byte_of field (to_ascii_uppercase byte) (passed field (to_ascii_uppercase byte) pen)
    (slice_get rest 0))
    (written field (passed field (to_ascii_uppercase byte) pen) rest)

-- the bytes that a value shows through a mask
abbrev pub edited : List ℕ → Dec → List ℕ
edited mask value = written (field_of value (shape_of mask)) at_start mask

-- with the byte of one symbol more
abbrev pub one_more : ℕ → ℕ → ℕ
one_more symbol size = if symbol == symbol_v then size else size + 1

-- how many bytes a mask shows: V has none
unfoldable pub shown_size : List ℕ → ℕ
shown_size [] = 0
shown_size (byte ∷ rest) = one_more (to_ascii_uppercase byte) (shown_size rest)
