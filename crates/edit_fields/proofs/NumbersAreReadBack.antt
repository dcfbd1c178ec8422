-- The digits of a field are the number that was put there.
use Rattle.std.proofs.Common.{◌≡◌, ℕ, zero, suc, ◌+◌, ◌-◌, ◌*◌, ◌/◌, ◌%◌, ◌^◌, ◌<◌, ◌≤◌, Bool, true, false, not, ◌==◌, ◌&&◌, ◌||◌, if◌then◌else◌, List, [], ◌∷◌, drop, slice_get, slice_index, Option, inl, inr, refl, sym, ap, ◌∙◌, subst, arith}
use Rattle.std.proofs.Math.Nat.{mod-lt}
use Rattle.std.proofs.lemmas.Bool.{and_parts, cases_Bool, eqb-true, not-true}
use Rattle.std.proofs.lemmas.Bool.Decides.{nat_tests}
use Rattle.std.specs.Char.{to_ascii_uppercase}
use Rattle.edit_fields.specs.declared.shape.Shape.{Shape}
use Rattle.edit_fields.specs.declared.field.Field.{Field}
use Rattle.edit_fields.specs.declared.edited.Pen.{Pen}
use Rattle.edit_fields.specs.Symbol.{is_currency_or_sign, symbol_dollar, symbol_period, symbol_plus, symbol_star, symbol_v}
use Rattle.edit_fields.specs.Shape.{behind, digits, empty}
use Rattle.edit_fields.specs.Field.{digit_of, field_of, moved, shape_of}
use Rattle.edit_fields.specs.Edited.{at_start, blank_byte, byte_of, digit_at, float_byte, has_digit, hidden_byte, is_shown, passed, passed_to, shows_next, sign_byte, written}
use Rattle.edit_fields.specs.Laws.{NumbersAreReadBack, digit_in, number_from, with_next}
use Rattle.edit_fields.proofs.BranchLemmas.{either_way, then_taken, else_taken, some_of}
use Rattle.edit_fields.proofs.MaskLemmas.{Come, ended, comes, come_last, mask_whole, moved_to}
use Rattle.edit_fields.proofs.FieldLemmas.{cut_short}
use Rattle.edit_fields.proofs.CountLemmas.{Counts, behind_counts, come_digits}

-- ---- the digits of a number

-- the number without its last digits
pub above : ℕ → ℕ → ℕ
above zero number = number
above (suc right) number = above right (number / 10)

pub above_none : (number : ℕ) → above 0 number ≡ number
unfolding above
above_none number = refl

digit_is : (right number : ℕ) → digit_of right number ≡ above right number % 10
unfolding above
digit_is zero number = refl
digit_is (suc right) number = digit_is right (number / 10)

above_more : (right number : ℕ) → above (suc right) number ≡ above right number / 10
unfolding above
above_more zero number = refl
above_more (suc right) number = above_more right (number / 10)

pub next_digit : (right number : ℕ) → above (suc right) number * 10 + digit_of right number ≡ above right number
next_digit right number = omega (arith, above_more right number, digit_is right number)

pub digit_small : (right number : ℕ) → digit_of right number ≤ 9
digit_small right number =
    let small : above right number % 10 < 10 = mod-lt (above right number) (omega arith) in
    omega (arith, digit_is right number, small)

pub nothing_above : (right number : ℕ) → number < 10 ^ right → above right number ≡ 0
unfolding above
nothing_above zero number h = omega arith
nothing_above (suc right) number h =
    let less : number / 10 < 10 ^ right = omega arith in
    nothing_above right (number / 10) less

-- ---- what a byte reads as

zero_of_sign : (minus : Bool) (sign : ℕ) → digit_in (sign_byte minus sign) ≡ 0
zero_of_sign true sign = refl
zero_of_sign false sign = either_way (λ (byte : ℕ). digit_in byte ≡ 0) (sign == symbol_plus) _ _ (λ _. refl) (λ _. refl)

zero_of_float : (field : Field) → digit_in (float_byte field) ≡ 0
zero_of_float field = either_way (λ (byte : ℕ). digit_in byte ≡ 0) (field.string == symbol_dollar) _ _ (λ _. refl) (λ _. zero_of_sign field.minus field.string)

-- what is hidden reads as zero
zero_of_hidden : (field : Field) (next : Bool) → digit_in (hidden_byte field next) ≡ 0
zero_of_hidden field next =
    either_way (λ (byte : ℕ). digit_in byte ≡ 0) (is_currency_or_sign field.string && next) _ _ (λ _. zero_of_float field)
    (λ _. either_way (λ (byte : ℕ). digit_in byte ≡ 0) (field.string == symbol_star) _ _ (λ _. refl) (λ _. refl))

zero_of_blank : (field : Field) (symbol : ℕ) → digit_in (blank_byte field symbol) ≡ 0
zero_of_blank field symbol =
    either_way (λ (byte : ℕ). digit_in byte ≡ 0) (not (field.string == symbol_star)) _ _ (λ _. refl)
    (λ _. either_way (λ (byte : ℕ). digit_in byte ≡ 0) (symbol == symbol_period) _ _ (λ _. refl) (λ _. refl))

digit_read : (d : ℕ) → d ≤ 9 → digit_in (48 + d) ≡ d
digit_read d h = grind (arith, nat_tests)

-- a digit is hidden where it is zero
pub hidden_is_zero : (field : Field) (symbol : ℕ) (shown : Bool) (next : Shape) → has_digit symbol next ≡ true → (shown || is_shown field symbol next) ≡ false → digit_at field next ≡ 0
hidden_is_zero field symbol shown next has hidden = grind (arith, nat_tests)

-- so a byte that has a digit reads as that
byte_reads : (field : Field) (symbol : ℕ) (pen : Pen) (shown : Bool) (ahead : Option ℕ) → field.blank ≡ false → has_digit symbol pen.shape ≡ true → pen.shown ≡ (shown || is_shown field symbol pen.shape) → digit_in (byte_of field symbol pen ahead) ≡ digit_at field pen.shape
byte_reads field symbol pen shown ahead visible has is =
    ap digit_in (else_taken field.blank (blank_byte field symbol) _ visible)
    ∙ either_way (λ (byte : ℕ). digit_in byte ≡ digit_at field pen.shape) (pen.begun && not pen.shown) _ _
    (λ hides.
    let hidden : pen.shown ≡ false = not-true pen.shown (and_parts pen.begun (not pen.shown) hides).1 in
    zero_of_hidden field (shows_next field pen ahead) ∙ sym (hidden_is_zero field symbol shown pen.shape has (sym is ∙ hidden)))
    (λ _. ap digit_in (then_taken (has_digit symbol pen.shape) (48 + digit_at field pen.shape) _ has) ∙ digit_read (digit_at field pen.shape) (digit_small (field.digits - digits pen.shape) field.number))

-- ---- one symbol

-- reading and writing go on together
together : (v : Bool) (byte : ℕ) (bytes : List ℕ) (skipped : List ℕ → ℕ) (taken : ℕ → List ℕ → ℕ) → (if v then skipped (if v then bytes else byte ∷ bytes) else taken (slice_index (if v then bytes else byte ∷ bytes) 0) (drop 1 (if v then bytes else byte ∷ bytes))) ≡ (if v then skipped bytes else taken byte bytes)
together true byte bytes skipped taken = refl
together false byte bytes skipped taken = refl

-- the number so far, with the digit of a symbol
number_on : (counts : Bool) (field : Field) (shape next : Shape) (byte : ℕ) → Counts counts shape next → digits next ≤ field.digits → field.digits ≤ 18 → (counts ≡ true → digit_in byte ≡ digit_at field next) → with_next counts (above (field.digits - digits shape) field.number) byte ≡ above (field.digits - digits next) field.number
number_on true field shape next byte (inl e) within few reads =
    let right : field.digits - digits shape ≡ suc (field.digits - digits next) = omega (arith, e) in
    ap (λ d. above (field.digits - digits shape) field.number * 10 + d) (reads refl)
    ∙ ap (λ n. above n field.number * 10 + digit_at field next) right
    ∙ next_digit (field.digits - digits next) field.number
number_on true field shape next byte (inr past) within few reads = absurd (omega (arith, past))
number_on false field shape next byte e within few reads = ap (λ n. above (field.digits - n) field.number) (sym e)

v_has_no_digit : (symbol : ℕ) (next : Shape) → symbol == symbol_v ≡ true → has_digit symbol next ≡ false
v_has_no_digit symbol next e = subst (λ s. has_digit s next ≡ false) (sym (eqb-true symbol 86 e)) refl

-- ---- all symbols

module _ (field : Field) (visible : field.blank ≡ false) (few : field.digits ≤ 18) where
  read_back : (shape last : Shape) (text : List ℕ) (begun shown : Bool) → Come shape text last → digits last ≡ field.digits → number_from shape (above (field.digits - digits shape) field.number) text (written field (record { shape = shape; begun = begun; shown = shown }) text) ≡ field.number
  unfolding number_from written above
  read_back shape last [] begun shown ended full =
      let none : field.digits - digits shape ≡ 0 = omega (arith, full) in
      ap (λ n. above n field.number) none
  read_back shape last (byte ∷ rest) begun shown (comes {next} e come) full =
      let symbol : ℕ = to_ascii_uppercase byte in
      let to_next : moved symbol shape ≡ next = moved_to symbol shape next e in
      let on : Pen = record { shape = next; begun = begun || symbol == field.string; shown = shown || is_shown field symbol next } in
      let within : digits next ≤ field.digits = omega (arith, full, come_digits come (omega (arith, full, few))) in
      let counts : Counts (has_digit symbol next) shape next = some_of (λ next. Counts (has_digit symbol next) shape next) (behind symbol shape) next e (behind_counts symbol shape) in
      let ahead : Option ℕ = slice_get rest 0 in
      let rest_is = read_back next last rest (begun || symbol == field.string) (shown || is_shown field symbol next) come full in
      ap (λ (s : Shape). number_from shape (above (field.digits - digits shape) field.number) (byte ∷ rest) (if symbol == symbol_v then written field (passed_to field symbol (record { shape = shape; begun = begun; shown = shown }) s) rest else byte_of field symbol (passed_to field symbol (record { shape = shape; begun = begun; shown = shown }) s) ahead ∷ written field (passed_to field symbol (record { shape = shape; begun = begun; shown = shown }) s) rest)) to_next
      ∙ together (symbol == symbol_v) (byte_of field symbol on ahead) (written field on rest) (λ bytes. number_from (moved symbol shape) (above (field.digits - digits shape) field.number) rest bytes) (λ b bytes. number_from (moved symbol shape) (with_next (has_digit symbol (moved symbol shape)) (above (field.digits - digits shape) field.number) b) rest bytes)
      ∙ ap (λ (s : Shape). if symbol == symbol_v then number_from s (above (field.digits - digits shape) field.number) rest (written field on rest) else number_from s (with_next (has_digit symbol s) (above (field.digits - digits shape) field.number) (byte_of field symbol on ahead)) rest (written field on rest)) to_next
      ∙ either_way (λ (n : ℕ). n ≡ field.number) (symbol == symbol_v) _ _
      (λ v.
      let same : digits next ≡ digits shape = subst (λ b. Counts b shape next) (v_has_no_digit symbol next v) counts in
      ap (λ n. number_from next (above (field.digits - n) field.number) rest (written field on rest)) (sym same) ∙ rest_is)
      (λ _. ap (λ n. number_from next n rest (written field on rest))
      (number_on (has_digit symbol next) field shape next (byte_of field symbol on ahead) counts within few (λ has. byte_reads field symbol on shown ahead visible has refl))
      ∙ rest_is)

-- ---- where nothing is shown

zero_on : (counts : Bool) (byte : ℕ) → digit_in byte ≡ 0 → with_next counts 0 byte ≡ 0
zero_on true byte e = omega (arith, e)
zero_on false byte e = refl

module _ (field : Field) (hidden : field.blank ≡ true) where
  blank_reads : (symbol : ℕ) (pen : Pen) (ahead : Option ℕ) → digit_in (byte_of field symbol pen ahead) ≡ 0
  blank_reads symbol pen ahead = ap digit_in (then_taken field.blank (blank_byte field symbol) _ hidden) ∙ zero_of_blank field symbol

  read_zero : (shape : Shape) (pen : Pen) (text : List ℕ) → number_from shape 0 text (written field pen text) ≡ 0
  unfolding number_from written
  read_zero shape pen [] = refl
  read_zero shape pen (byte ∷ rest) =
      let symbol : ℕ = to_ascii_uppercase byte in
      let on : Pen = passed field symbol pen in
      let ahead : Option ℕ = slice_get rest 0 in
      together (symbol == symbol_v) (byte_of field symbol on ahead) (written field on rest) (λ bytes. number_from (moved symbol shape) 0 rest bytes) (λ b bytes. number_from (moved symbol shape) (with_next (has_digit symbol (moved symbol shape)) 0 b) rest bytes)
      ∙ either_way (λ (n : ℕ). n ≡ 0) (symbol == symbol_v) _ _
      (λ _. read_zero (moved symbol shape) on rest)
      (λ _. ap (λ n. number_from (moved symbol shape) n rest (written field on rest)) (zero_on (has_digit symbol (moved symbol shape)) (byte_of field symbol on ahead) (blank_reads symbol on ahead))
      ∙ read_zero (moved symbol shape) on rest)

-- ---- the law

pub numbers_are_read_back : NumbersAreReadBack
numbers_are_read_back mask value is =
    let whole = mask_whole mask is in
    let shape : Shape = shape_of mask in
    let field : Field = field_of value shape in
    let full : digits whole.last ≡ field.digits = ap (λ (s : Shape). digits s) (sym (come_last whole.come)) in
    let few : field.digits ≤ 18 = omega (arith, full, whole.number.few_digits) in
    elim (cases_Bool field.blank) [
      | inl hidden ↦
          let zero_number : field.number ≡ 0 = eqb-true field.number 0 (and_parts (not shape.nines) (field.number == 0) hidden).1 in
          read_zero field hidden empty at_start mask ∙ sym zero_number
      | inr visible ↦
          let right : field.digits ≡ field.digits - digits empty = omega arith in
          ap (λ n. number_from empty n mask (written field at_start mask)) (sym (nothing_above field.digits field.number (cut_short value shape)) ∙ ap (λ r. above r field.number) right)
          ∙ read_back field visible few empty whole.last mask false false whole.come full
    ]
