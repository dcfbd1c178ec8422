-- Edited pictures: which texts are taken as masks, and what they are.
use Rattle.std.specs.Prelude.{ℕ, ◌+◌, Bool, false, not, ◌==◌, ◌&&◌, ◌||◌, List, [], ◌∷◌, Option, Some, None, Result, Ok, Err, if◌then◌else◌}
use Rattle.std.specs.Char.{to_ascii_uppercase}
use Rattle.cob_base.specs.Bytes.{left_parenthesis, right_parenthesis}
use Rattle.cob_tree.specs.declared.picture.Picture.{Picture}
use Rattle.cob_tree.specs.declared.picture.Picture.TheVariants as pictures
use Rattle.edit_fields.specs.declared.fault.MaskFault.{MaskFault}
use Rattle.edit_fields.specs.declared.fault.MaskFault.TheVariants as mask_faults
use Rattle.edit_fields.specs.Mask.{held}
use Rattle.edit_fields.specs.Symbol.{is_currency_or_sign, is_suppressor, is_tail_letter, symbol_0, symbol_b, symbol_comma, symbol_period, symbol_r, symbol_slash}
use Rattle.picture_data.specs.declared.fault.PictureFault.{PictureFault}
use Rattle.picture_data.specs.declared.fault.PictureFault.TheVariants as faults
use Rattle.picture_data.specs.Symbols.{symbol_a, symbol_s, symbol_x}

-- ---- which texts are masks

-- a symbol that masks alone have: a sign, `$`, Z, `*`, B, `/`, a comma, a period, C, D or R
abbrev pub is_edit_symbol : ℕ → Bool
is_edit_symbol symbol =
    is_currency_or_sign symbol || is_suppressor symbol || symbol == symbol_b
    || symbol == symbol_slash || symbol == symbol_comma || symbol == symbol_period
    || is_tail_letter symbol || symbol == symbol_r

-- the byte is such a symbol, or a 0 outside a count
abbrev pub is_edit_byte : ℕ → Bool → Bool
is_edit_byte byte counts =
    is_edit_symbol (to_ascii_uppercase byte) || (byte == symbol_0 && not counts)

-- the next byte is in a count: one begins with this byte, or goes on
abbrev pub counts_behind : ℕ → Bool → Bool
counts_behind byte counts =
    byte == left_parenthesis || (counts && not (byte == right_parenthesis))

-- the rest, which begins in a count or not, has such a byte
unfoldable pub is_edited_from : Bool → List ℕ → Bool
is_edited_from counts [] = false
is_edited_from counts (byte ∷ rest) =
    is_edit_byte byte counts || is_edited_from (counts_behind byte counts) rest

-- the text is taken as a mask
abbrev pub is_edited : List ℕ → Bool
is_edited text = is_edited_from false text

-- ---- what they are

-- X, A and S, which no mask has
abbrev pub is_plain_symbol : ℕ → Bool
is_plain_symbol symbol = symbol == symbol_x || symbol == symbol_a || symbol == symbol_s

-- where the first of these is in the rest, after so many bytes
unfoldable pub first_plain : ℕ → List ℕ → Option ℕ
first_plain count [] = None
first_plain count (byte ∷ rest) =
    if is_plain_symbol (to_ascii_uppercase byte) then Some (count + 1)
    else first_plain (count + 1) rest

-- a fault of a mask is one of its picture
abbrev pub fault_of : MaskFault → PictureFault
fault_of (mask_faults.Symbol byte) = faults.BadSymbol byte
fault_of (mask_faults.Order byte) = faults.BadOrder byte
fault_of (mask_faults.TooManyDigits byte) = faults.TooManyDigits byte

-- the picture of a mask, or the fault
abbrev pub picture_by : Result (List ℕ) MaskFault → Result Picture PictureFault
picture_by (Ok mask) = Ok (pictures.Edited mask)
picture_by (Err fault) = Err (fault_of fault)

-- the picture of a text that has an X, A or S there, or none
abbrev pub edited_by : Option ℕ → List ℕ → Result Picture PictureFault
edited_by (Some position) text = Err (faults.BadOrder position)
edited_by None text = picture_by (held text)

-- the picture of a text that is taken as a mask, or its fault
abbrev pub edited_picture : List ℕ → Result Picture PictureFault
edited_picture text = edited_by (first_plain 0 text) text
