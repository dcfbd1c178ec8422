-- A mask shows the same with its letters in capitals.
use Rattle.std.proofs.Common.{◌≡◌, ℕ, ◌<◌, true, false, not, arith, ◌==◌, List, [], ◌∷◌, length, map, get_or, slice_get, None, refl, sym, ap, ◌∙◌}
use Rattle.std.proofs.lemmas.Bool.{and_parts, eqb-false, ne_eqb, not-true, or_parts}
use Rattle.std.proofs.lemmas.Bool.Decides.{nat_tests}
use Rattle.std.proofs.lemmas.List.{get_or-map}
use Rattle.std.proofs.lemmas.Str.Ascii.{uppercase-uppercase}
use Rattle.std.specs.Char.{to_ascii_uppercase}
use Rattle.cob_num.specs.declared.number.Dec.{Dec}
use Rattle.edit_fields.specs.declared.shape.Shape.{Shape}
use Rattle.edit_fields.specs.declared.field.Field.{Field}
use Rattle.edit_fields.specs.declared.edited.Pen.{Pen}
use Rattle.edit_fields.specs.Shape.{empty}
use Rattle.edit_fields.specs.Reading.{is_parenthesis, is_written_out, left_parenthesis, right_parenthesis, written_from}
use Rattle.edit_fields.specs.Field.{field_of, moved, shape_from, shape_of}
use Rattle.edit_fields.specs.Edited.{at_start, byte_by, byte_of, edited, one_more, passed, shown_size, shows_next, with_byte, written}
use Rattle.edit_fields.proofs.BranchLemmas.{else_taken}

-- a symbol of a mask in capitals
pub capital_at : (mask : List ℕ) (n : ℕ) → n < length mask → map to_ascii_uppercase mask ≡ mask → get_or mask n 0 ≡ to_ascii_uppercase (get_or mask n 0)
capital_at mask n h capitals = ap (λ l. get_or l n 0) (sym capitals) ∙ get_or-map to_ascii_uppercase mask n 0 0 h

upper_parenthesis : (byte : ℕ) → to_ascii_uppercase byte ≡ 40 → byte ≡ 40
upper_parenthesis byte h = grind (arith, nat_tests)

not_upper : (byte : ℕ) → is_parenthesis byte ≡ false → (to_ascii_uppercase byte == left_parenthesis) ≡ false
not_upper byte h =
    let left = or_parts (byte == left_parenthesis) (byte == right_parenthesis) h in
    ne_eqb (to_ascii_uppercase byte) 40 (λ e. eqb-false byte 40 left.0 (upper_parenthesis byte e))

-- what has no counts stands for itself
pub plain_written : (text : List ℕ) (last : ℕ) → is_written_out text ≡ true → written_from None last text ≡ map to_ascii_uppercase text
unfolding written_from
plain_written [] last plain = refl
plain_written (byte ∷ rest) last plain =
    let parts = and_parts (not (is_parenthesis byte)) (is_written_out rest) plain in
    else_taken (to_ascii_uppercase byte == left_parenthesis) _ (to_ascii_uppercase byte ∷ written_from None (to_ascii_uppercase byte) rest) (not_upper byte (not-true (is_parenthesis byte) parts.0))
    ∙ ap (λ l. to_ascii_uppercase byte ∷ l) (plain_written rest (to_ascii_uppercase byte) parts.1)

shape_upper : (text : List ℕ) (shape : Shape) → shape_from shape (map to_ascii_uppercase text) ≡ shape_from shape text
unfolding shape_from
shape_upper [] shape = refl
shape_upper (byte ∷ rest) shape =
    ap (λ b. shape_from (moved b shape) (map to_ascii_uppercase rest)) (uppercase-uppercase byte)
    ∙ shape_upper rest (moved (to_ascii_uppercase byte) shape)

shows_upper : (field : Field) (pen : Pen) (text : List ℕ) → shows_next field pen (slice_get (map to_ascii_uppercase text) 0) ≡ shows_next field pen (slice_get text 0)
shows_upper field pen [] = refl
shows_upper field pen (byte ∷ rest) = ap (λ b. (passed field b pen).shown) (uppercase-uppercase byte)

written_upper : (text : List ℕ) (field : Field) (pen : Pen) → written field pen (map to_ascii_uppercase text) ≡ written field pen text
unfolding written
written_upper [] field pen = refl
written_upper (byte ∷ rest) field pen =
    let c : ℕ = to_ascii_uppercase byte in
    ap (λ b. with_byte b (byte_of field b (passed field b pen) (slice_get (map to_ascii_uppercase rest) 0)) (written field (passed field b pen) (map to_ascii_uppercase rest))) (uppercase-uppercase byte)
    ∙ ap (λ s. with_byte c (byte_by field c (passed field c pen) s) (written field (passed field c pen) (map to_ascii_uppercase rest))) (shows_upper field (passed field c pen) rest)
    ∙ ap (λ l. with_byte c (byte_of field c (passed field c pen) (slice_get rest 0)) l) (written_upper rest field (passed field c pen))

pub edited_upper : (mask : List ℕ) (value : Dec) → edited (map to_ascii_uppercase mask) value ≡ edited mask value
edited_upper mask value =
    written_upper mask (field_of value (shape_of (map to_ascii_uppercase mask))) at_start
    ∙ ap (λ s. written (field_of value s) at_start mask) (shape_upper mask empty)

pub size_upper : (mask : List ℕ) → shown_size (map to_ascii_uppercase mask) ≡ shown_size mask
unfolding shown_size
size_upper [] = refl
size_upper (byte ∷ rest) =
    ap (λ b. one_more b (shown_size (map to_ascii_uppercase rest))) (uppercase-uppercase byte)
    ∙ ap (λ n. one_more (to_ascii_uppercase byte) n) (size_upper rest)
