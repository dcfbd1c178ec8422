-- A number that isn't negative once it is cut shows no minus, CR or DB.
use Rattle.std.proofs.Common.{◌≡◌, ℕ, ◌+◌, ◌-◌, ◌≤◌, Bool, true, false, not, ◌==◌, ◌&&◌, ◌||◌, if◌then◌else◌, List, [], ◌∷◌, slice_get, Option, Some, inl, inr, refl, sym, subst, arith}
use Rattle.std.proofs.lemmas.Bool.{cases_Bool, or_from, or_parts}
use Rattle.std.proofs.lemmas.Bool.Decides.{nat_tests}
use Rattle.std.specs.Char.{to_ascii_uppercase}
use Rattle.std.specs.List.{list_any}
use Rattle.edit_fields.specs.declared.shape.Shape.{Shape}
use Rattle.edit_fields.specs.declared.field.Field.{Field}
use Rattle.edit_fields.specs.declared.edited.Pen.{Pen}
use Rattle.edit_fields.specs.Symbol.{is_currency_or_sign, is_sign, is_tail_letter, symbol_b, symbol_dollar, symbol_minus, symbol_period, symbol_plus, symbol_r, symbol_star, symbol_v}
use Rattle.edit_fields.specs.Shape.{behind, digits, empty}
use Rattle.edit_fields.specs.Field.{field_of, moved, shape_of}
use Rattle.edit_fields.specs.Edited.{blank_byte, byte_of, digit_at, float_byte, has_digit, hidden_byte, is_shown, is_tail, passed_to, shown_byte, shows_next, sign_byte, written}
use Rattle.edit_fields.specs.Laws.{OnlyNegativesAreMarked, is_mark}
use Rattle.edit_fields.proofs.BranchLemmas.{either_way, some_of}
use Rattle.edit_fields.proofs.MaskLemmas.{Come, ended, comes, mask_whole, moved_to}
use Rattle.edit_fields.proofs.CountLemmas.{last_letters_are_tails, letters_are_tails}
use Rattle.edit_fields.proofs.NumbersAreReadBack.{digit_small}

abbrev Plain : ℕ → Type 0
Plain byte = is_mark byte ≡ false

-- ---- the bytes of what isn't negative

plain_sign : (minus : Bool) (sign : ℕ) → minus ≡ false → Plain (sign_byte minus sign)
plain_sign true sign above_zero = absurd cc
plain_sign false sign above_zero = either_way Plain (sign == symbol_plus) _ _ (λ _. refl) (λ _. refl)

plain_float : (field : Field) → field.minus ≡ false → Plain (float_byte field)
plain_float field above_zero = either_way Plain (field.string == symbol_dollar) _ _ (λ _. refl) (λ _. plain_sign field.minus field.string above_zero)

plain_hidden : (field : Field) (next : Bool) → field.minus ≡ false → Plain (hidden_byte field next)
plain_hidden field next above_zero =
    either_way Plain (is_currency_or_sign field.string && next) _ _ (λ _. plain_float field above_zero)
    (λ _. either_way Plain (field.string == symbol_star) _ _ (λ _. refl) (λ _. refl))

plain_blank : (field : Field) (symbol : ℕ) → Plain (blank_byte field symbol)
plain_blank field symbol =
    either_way Plain (not (field.string == symbol_star)) _ _ (λ _. refl)
    (λ _. either_way Plain (symbol == symbol_period) _ _ (λ _. refl) (λ _. refl))

plain_digit : (d : ℕ) → d ≤ 9 → Plain (48 + d)
plain_digit d h = grind (arith, nat_tests)

plain_letter : (minus : Bool) (letter : ℕ) → minus ≡ false → Plain (if minus then letter else 32)
plain_letter true letter above_zero = absurd cc
plain_letter false letter above_zero = refl

four_false : (a b c d : Bool) → a ≡ false → b ≡ false → c ≡ false → d ≡ false → (a || b || c || d) ≡ false
four_false true b c d p q r s = absurd cc
four_false false true c d p q r s = absurd cc
four_false false false true d p q r s = absurd cc
four_false false false false true p q r s = absurd cc
four_false false false false false p q r s = refl

-- a symbol that stands as it is belongs to above_zero sign and above_zero tail
plain_symbol : (symbol : ℕ) (shape next : Shape) → behind symbol shape ≡ Some next → is_sign symbol ≡ false → is_tail next.stage ≡ false → symbol == symbol_b ≡ false → Plain symbol
plain_symbol symbol shape next e sign tail b =
    let minus : symbol == symbol_minus ≡ false = (or_parts (symbol == symbol_plus) (symbol == symbol_minus) sign).1 in
    let r : symbol == symbol_r ≡ false = elim (cases_Bool (symbol == symbol_r)) [
      | inl is ↦ let in_tail = some_of (λ (s : Shape). is_tail s.stage ≡ true) (behind symbol shape) next e (last_letters_are_tails symbol shape is) in absurd cc
      | inr is ↦ is
    ] in
    let letter : is_tail_letter symbol ≡ false = elim (cases_Bool (is_tail_letter symbol)) [
      | inl is ↦ let in_tail = some_of (λ (s : Shape). is_tail s.stage ≡ true) (behind symbol shape) next e (letters_are_tails symbol shape is) in absurd cc
      | inr is ↦ is
    ] in
    four_false (symbol == symbol_minus) (symbol == symbol_b) (symbol == symbol_r) (is_tail_letter symbol) minus b r letter

plain_shown : (field : Field) (symbol : ℕ) (shape next : Shape) → field.minus ≡ false → behind symbol shape ≡ Some next → Plain (shown_byte field symbol next)
plain_shown field symbol shape next above_zero e =
    either_way Plain (has_digit symbol next) _ _ (λ _. plain_digit (digit_at field next) (digit_small (field.digits - digits next) field.number))
    (λ _. either_way Plain (is_sign symbol) _ _ (λ _. plain_sign field.minus symbol above_zero)
    (λ sign. either_way Plain (is_tail next.stage) _ _ (λ _. plain_letter field.minus symbol above_zero)
    (λ tail. either_way Plain (symbol == symbol_b) _ _ (λ _. refl) (λ b. plain_symbol symbol shape next e sign tail b))))

plain_byte : (field : Field) (symbol : ℕ) (shape : Shape) (pen : Pen) (ahead : Option ℕ) → field.minus ≡ false → behind symbol shape ≡ Some pen.shape → Plain (byte_of field symbol pen ahead)
plain_byte field symbol shape pen ahead above_zero e =
    either_way Plain field.blank _ _ (λ _. plain_blank field symbol)
    (λ _. either_way Plain (pen.begun && not pen.shown) _ _ (λ _. plain_hidden field (shows_next field pen ahead) above_zero) (λ _. plain_shown field symbol shape pen.shape above_zero e))

-- ---- all bytes

none_with : (v : Bool) (byte : ℕ) (bytes : List ℕ) → Plain byte → list_any is_mark bytes ≡ false → list_any is_mark (if v then bytes else byte ∷ bytes) ≡ false
none_with true byte bytes plain none = none
none_with false byte bytes plain none = or_from (is_mark byte) (list_any is_mark bytes) plain none

none_of_rest : (field : Field) (shape last : Shape) (text : List ℕ) (begun shown : Bool) → field.minus ≡ false → Come shape text last → list_any is_mark (written field (record { shape = shape; begun = begun; shown = shown }) text) ≡ false
unfolding written
none_of_rest field shape last [] begun shown above_zero ended = refl
none_of_rest field shape last (byte ∷ rest) begun shown above_zero (comes {next} e come) =
    let symbol : ℕ = to_ascii_uppercase byte in
    let to_next : moved symbol shape ≡ next = moved_to symbol shape next e in
    let before : Pen = record { shape = shape; begun = begun; shown = shown } in
    let on : Pen = record { shape = next; begun = begun || symbol == field.string; shown = shown || is_shown field symbol next } in
    let ahead : Option ℕ = slice_get rest 0 in
    subst (λ (s : Shape). list_any is_mark (if symbol == symbol_v then written field (passed_to field symbol before s) rest else byte_of field symbol (passed_to field symbol before s) ahead ∷ written field (passed_to field symbol before s) rest) ≡ false) (sym to_next)
    (none_with (symbol == symbol_v) (byte_of field symbol on ahead) (written field on rest) (plain_byte field symbol shape on ahead above_zero e)
    (none_of_rest field next last rest (begun || symbol == field.string) (shown || is_shown field symbol next) above_zero come))

pub only_negatives_are_marked : OnlyNegativesAreMarked
only_negatives_are_marked mask value is above_zero =
    let whole = mask_whole mask is in
    none_of_rest (field_of value (shape_of mask)) empty whole.last mask false false above_zero whole.come
