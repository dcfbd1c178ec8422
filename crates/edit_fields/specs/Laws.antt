-- What holds of all masks and numbers.
use Rattle.std.specs.Prelude.{◌≡◌, ◌≤◌, ℕ, ◌+◌, ◌-◌, ◌*◌, ◌/◌, ◌%◌, Bool, true, false, ◌==◌, ◌&&◌, ◌||◌, nat_le, nat_lt, List, [], ◌∷◌, ◌++◌, length, map, drop, slice_index, unsigned_abs, Option, Some, None, option_and_then, if◌then◌else◌}
use Rattle.std.specs.Char.{to_ascii_uppercase}
use Rattle.std.specs.Int.{is_negative}
use Rattle.std.specs.List.{list_any}
use Rattle.cob_num.specs.declared.number.Dec.{Dec}
use Rattle.edit_fields.specs.declared.shape.Shape.{Shape}
use Rattle.edit_fields.specs.Symbol.{is_tail_letter, symbol_b, symbol_minus, symbol_r, symbol_v}
use Rattle.edit_fields.specs.Shape.{behind, empty, is_whole}
use Rattle.edit_fields.specs.Reading.{left_parenthesis, mask_fault_of, right_parenthesis, written_out}
use Rattle.edit_fields.specs.Field.{IsMask, cut, field_of, moved, shape_of}
use Rattle.edit_fields.specs.Edited.{edited, has_digit, shown_size}
use Rattle.edit_fields.specs.LightPen.{light_start, light_written}

-- each symbol but V has one byte
abbrev pub SymbolsHaveBytes : Type 0
SymbolsHaveBytes = (mask : List ℕ) (value : Dec) → length (edited mask value) ≡ shown_size mask

-- along a mask a pen needs no shape
abbrev pub LightPensAreEnough : Type 0
LightPensAreEnough =
    (mask : List ℕ) (value : Dec) → IsMask mask →
    light_written (field_of value (shape_of mask)) (light_start (field_of value (shape_of mask)))
    mask ≡ edited mask value

-- ---- what is in a field is read back

-- the digit that a byte is; what stands for a suppressed zero is zero
abbrev pub digit_in : ℕ → ℕ
digit_in byte = if nat_le 48 byte && nat_le byte 57 then byte - 48 else 0

-- the number with the next byte, where that has a digit
abbrev pub with_next : Bool → ℕ → ℕ → ℕ
with_next counts number byte = if counts then number * 10 + digit_in byte else number

-- the number that the bytes of the rest go on with
unfoldable pub number_from : Shape → ℕ → List ℕ → List ℕ → ℕ
number_from shape number [] bytes = number
number_from shape number (byte ∷ rest) bytes =
    if to_ascii_uppercase byte == symbol_v
    then number_from (moved (to_ascii_uppercase byte) shape) number rest bytes
    else number_from (moved (to_ascii_uppercase byte) shape)
    (with_next (has_digit (to_ascii_uppercase byte) (moved (to_ascii_uppercase byte) shape))
    number (slice_index bytes 0))
    rest (drop 1 bytes)

-- the digits of a field as one number, read from the left
abbrev pub number_in : List ℕ → List ℕ → ℕ
number_in mask bytes = number_from empty 0 mask bytes

-- a field shows each digit of its number: only leading zeros are suppressed
abbrev pub NumbersAreReadBack : Type 0
NumbersAreReadBack =
    (mask : List ℕ) (value : Dec) → IsMask mask →
    number_in mask (edited mask value) ≡ unsigned_abs (cut value (shape_of mask))

-- ---- the sign

-- a minus, or a letter of CR or DB
abbrev pub is_mark : ℕ → Bool
is_mark byte = byte == symbol_minus || byte == symbol_b || byte == symbol_r || is_tail_letter byte

-- a number that isn't negative once it is cut has no mark of one, zero least of all
abbrev pub OnlyNegativesAreMarked : Type 0
OnlyNegativesAreMarked =
    (mask : List ℕ) (value : Dec) → IsMask mask →
    is_negative (cut value (shape_of mask)) ≡ false → list_any is_mark (edited mask value) ≡ false

-- a number below zero has one, where the mask has a sign
abbrev pub NegativesAreMarked : Type 0
NegativesAreMarked =
    (mask : List ℕ) (value : Dec) → IsMask mask → (shape_of mask).sign ≡ true →
    is_negative (cut value (shape_of mask)) ≡ true → list_any is_mark (edited mask value) ≡ true

-- ---- where a fault of order is

-- the symbols, each after those before it
unfoldable pub symbols_from : Shape → List ℕ → Option Shape
symbols_from shape [] = Some shape
symbols_from shape (symbol ∷ rest) =
    option_and_then (λ next. symbols_from next rest) (behind symbol shape)

-- symbols that may follow each other go on to those of a mask: with a digit, and a whole tail
abbrev pub BeginningsGoOn : Type 0
BeginningsGoOn =
    (symbols : List ℕ) (shape : Shape) → symbols_from empty symbols ≡ Some shape →
    (more : List ℕ) × (last : Shape) ×
    (symbols_from empty (symbols ++ more) ≡ Some last) × (is_whole last ≡ true)

-- ---- counts

-- a mask with counts stands for one without
abbrev pub MasksAreWrittenOut : Type 0
MasksAreWrittenOut = (text : List ℕ) → mask_fault_of text ≡ None → IsMask (written_out text)

-- ---- printing

-- a count of up to three digits, before what follows it
abbrev pub count_text : ℕ → List ℕ → List ℕ
count_text count more =
    if nat_lt count 10 then (48 + count) ∷ more else
    if nat_lt count 100 then (48 + count / 10) ∷ (48 + count % 10) ∷ more
    else (48 + count / 10 / 10) ∷ (48 + count / 10 % 10) ∷ (48 + count % 10) ∷ more

-- a run of one symbol, as `Z` or `Z(12)`, before what follows it
abbrev pub run_text : ℕ → ℕ → List ℕ → List ℕ
run_text symbol run more =
    if run == 1 then symbol ∷ more
    else symbol ∷ left_parenthesis ∷ count_text run (right_parenthesis ∷ more)

-- the rest, after a run of a symbol
unfoldable pub printed_from : ℕ → ℕ → List ℕ → List ℕ
printed_from symbol run [] = run_text symbol run []
printed_from symbol run (byte ∷ rest) =
    if symbol == byte then printed_from symbol (run + 1) rest
    else run_text symbol run (printed_from byte 1 rest)

-- a mask with its runs as counts
abbrev pub printed : List ℕ → List ℕ
printed [] = []
printed (byte ∷ rest) = printed_from byte 1 rest

-- what is printed of a mask in capitals is read as that mask
abbrev pub PrintedMasksAreRead : Type 0
PrintedMasksAreRead =
    (mask : List ℕ) → IsMask mask → map to_ascii_uppercase mask ≡ mask →
    (mask_fault_of (printed mask) ≡ None) × (written_out (printed mask) ≡ mask)

-- and is short enough for a line
abbrev pub PrintedMasksAreShort : Type 0
PrintedMasksAreShort =
    (mask : List ℕ) → IsMask mask → map to_ascii_uppercase mask ≡ mask → length (printed mask) ≤ 50
