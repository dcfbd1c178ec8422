-- Each symbol but V has one byte.
use Rattle.std.proofs.Common.{◌≡◌, ℕ, suc, ◌+◌, Bool, true, false, ◌==◌, if◌then◌else◌, List, [], ◌∷◌, length, refl, sym, ap, ◌∙◌, add-one}
use Rattle.std.specs.Char.{to_ascii_uppercase}
use Rattle.edit_fields.specs.declared.field.Field.{Field}
use Rattle.edit_fields.specs.declared.edited.Pen.{Pen}
use Rattle.edit_fields.specs.Symbol.{symbol_v}
use Rattle.edit_fields.specs.Field.{field_of, shape_of}
use Rattle.edit_fields.specs.Edited.{at_start, passed, shown_size, written}
use Rattle.edit_fields.specs.Laws.{SymbolsHaveBytes}

one_byte : (v : Bool) (byte size : ℕ) (bytes : List ℕ) → length bytes ≡ size → length (if v then bytes else byte ∷ bytes) ≡ (if v then size else size + 1)
one_byte true byte size bytes h = h
one_byte false byte size bytes h = ap suc h ∙ sym (add-one size)

bytes_of_rest : (field : Field) (pen : Pen) (mask : List ℕ) → length (written field pen mask) ≡ shown_size mask
unfolding written shown_size
bytes_of_rest field pen [] = refl
bytes_of_rest field pen (byte ∷ rest) = one_byte (to_ascii_uppercase byte == symbol_v) _ (shown_size rest) _ (bytes_of_rest field (passed field (to_ascii_uppercase byte) pen) rest)

pub symbols_have_bytes : SymbolsHaveBytes
symbols_have_bytes mask value = bytes_of_rest (field_of value (shape_of mask)) at_start mask
