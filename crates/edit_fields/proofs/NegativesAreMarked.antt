-- A number below zero has a mark of it, where the mask has a sign.
use Rattle.std.proofs.Common.{◌≡◌, ℕ, suc, ◌+◌, ◌-◌, ◌≤◌, Bool, true, false, not, ◌==◌, ◌&&◌, ◌||◌, if◌then◌else◌, List, [], ◌∷◌, slice_get, Option, Some, ℤ, pos, negsuc, unsigned_abs, inl, inr, refl, sym, ap, ◌∙◌, subst, arith}
use Rattle.std.proofs.lemmas.Bool.{and_from, and_right, cases_Bool, eqb-true, ne_eqb, not_from_true, or_cases, or_left, or_parts, or_right}
use Rattle.std.specs.Char.{to_ascii_uppercase}
use Rattle.std.specs.Int.{is_negative}
use Rattle.std.specs.List.{list_any}
use Rattle.edit_fields.specs.declared.shape.Stage.{Stage}
use Rattle.edit_fields.specs.declared.shape.Stage.TheVariants as stages
use Rattle.edit_fields.specs.declared.shape.Shape.{Shape}
use Rattle.edit_fields.specs.declared.field.Field.{Field}
use Rattle.edit_fields.specs.declared.edited.Pen.{Pen}
use Rattle.edit_fields.specs.Symbol.{is_currency_or_sign, is_sign, is_tail_letter, space, symbol_dollar, symbol_minus, symbol_v}
use Rattle.edit_fields.specs.Shape.{behind, digits, empty}
use Rattle.edit_fields.specs.Field.{cut, field_of, moved, shape_of}
use Rattle.edit_fields.specs.Edited.{at_start, blank_byte, byte_of, digit_at, float_byte, has_digit, hidden_byte, is_shown, is_string, is_tail, letter_byte, passed_to, shown_byte, shows_next, sign_byte, written}
use Rattle.edit_fields.specs.Laws.{NegativesAreMarked, is_mark}
use Rattle.edit_fields.proofs.BranchLemmas.{then_taken, else_taken, some_of}
use Rattle.edit_fields.proofs.MaskLemmas.{Come, ended, comes, come_last, mask_whole, moved_to}
use Rattle.edit_fields.proofs.FieldLemmas.{cut_short}
use Rattle.edit_fields.proofs.CountLemmas.{Counts, behind_counts, come_digits, sign_has}
use Rattle.edit_fields.proofs.NumbersAreReadBack.{above, above_none, next_digit, nothing_above, hidden_is_zero}
use Rattle.edit_fields.proofs.StepLemmas.{Turn, floats, in_lead, in_tail, is_start}
use Rattle.edit_fields.proofs.ComeLemmas.{NoneYet, none_next, once_floats, step_of, tail_digits}

-- ---- marks

module _ (field : Field) (visible : field.blank ≡ false) (below : field.minus ≡ true) where
  minus_sign : (sign : ℕ) → sign_byte field.minus sign ≡ 45
  minus_sign sign = then_taken field.minus symbol_minus _ below

  -- what floats is a minus
  float_marks : (next : Bool) → is_sign field.string ≡ true → next ≡ true → is_mark (hidden_byte field next) ≡ true
  float_marks next sign is =
      let no_dollar : (field.string == symbol_dollar) ≡ false = elim (or_cases (field.string == 43) (field.string == 45) sign) [
        | inl e ↦ ap (λ s. s == symbol_dollar) (eqb-true field.string 43 e)
        | inr e ↦ ap (λ s. s == symbol_dollar) (eqb-true field.string 45 e)
      ] in
      ap is_mark
      (then_taken (is_currency_or_sign field.string && next) (float_byte field) _ (and_from (is_currency_or_sign field.string) next (or_left (is_sign field.string) (field.string == symbol_dollar) sign) is)
      ∙ else_taken (field.string == symbol_dollar) symbol_dollar (sign_byte field.minus field.string) no_dollar
      ∙ minus_sign field.string)

  -- a sign that is shown is a minus
  sign_marks : (symbol : ℕ) (next : Shape) → is_sign symbol ≡ true → is_string next.stage ≡ false → is_mark (shown_byte field symbol next) ≡ true
  sign_marks symbol next sign other =
      ap is_mark
      (else_taken (has_digit symbol next) (48 + digit_at field next) _ (sign_has symbol next sign ∙ other)
      ∙ then_taken (is_sign symbol) (sign_byte field.minus symbol) _ sign
      ∙ minus_sign symbol)

  -- and so is a letter of the tail
  letter_marks : (symbol : ℕ) (next : Shape) → is_tail_letter symbol ≡ true → is_tail next.stage ≡ true → is_mark (shown_byte field symbol next) ≡ true
  letter_marks symbol next letter tail = elim (or_cases (symbol == 67) (symbol == 68) letter) [
    | inl e ↦ subst (λ s. is_mark (shown_byte field s next) ≡ true) (sym (eqb-true symbol 67 e)) (ap is_mark (then_taken (is_tail next.stage) (letter_byte field 67) _ tail ∙ then_taken field.minus 67 space below))
    | inr e ↦ subst (λ s. is_mark (shown_byte field s next) ≡ true) (sym (eqb-true symbol 68 e)) (ap is_mark (then_taken (is_tail next.stage) (letter_byte field 68) _ tail ∙ then_taken field.minus 68 space below))
  ]

  shown_at : (symbol : ℕ) (pen : Pen) (ahead : Option ℕ) → (pen.begun && not pen.shown) ≡ false → byte_of field symbol pen ahead ≡ shown_byte field symbol pen.shape
  shown_at symbol pen ahead open_place =
      else_taken field.blank (blank_byte field symbol) _ visible
      ∙ else_taken (pen.begun && not pen.shown) (hidden_byte field (shows_next field pen ahead)) (shown_byte field symbol pen.shape) open_place

  hidden_at : (symbol : ℕ) (pen : Pen) (ahead : Option ℕ) → (pen.begun && not pen.shown) ≡ true → byte_of field symbol pen ahead ≡ hidden_byte field (shows_next field pen ahead)
  hidden_at symbol pen ahead hidden =
      else_taken field.blank (blank_byte field symbol) _ visible
      ∙ then_taken (pen.begun && not pen.shown) (hidden_byte field (shows_next field pen ahead)) (shown_byte field symbol pen.shape) hidden

-- ---- digits that are all zero

-- so far there is none but zeros, and with a symbol that isn't shown too
zeros_next : (counts : Bool) (field : Field) (shape next : Shape) → Counts counts shape next → digits next ≤ field.digits → field.digits ≤ 18 → above (field.digits - digits shape) field.number ≡ 0 → (counts ≡ true → digit_at field next ≡ 0) → above (field.digits - digits next) field.number ≡ 0
zeros_next true field shape next (inl e) within few zeros reads =
    let right : field.digits - digits shape ≡ suc (field.digits - digits next) = omega (arith, e) in
    let more = next_digit (field.digits - digits next) field.number in
    let before : above (suc (field.digits - digits next)) field.number ≡ 0 = ap (λ n. above n field.number) (sym right) ∙ zeros in
    omega (arith, more, before, reads refl)
zeros_next true field shape next (inr past) within few zeros reads = absurd (omega (arith, past))
zeros_next false field shape next e within few zeros reads = ap (λ n. above (field.digits - n) field.number) e ∙ zeros

v_shown : (field : Field) (symbol : ℕ) (next : Shape) → (symbol == symbol_v) ≡ true → is_shown field symbol next ≡ true
v_shown field symbol next e = subst (λ s. is_shown field s next ≡ true) (sym (eqb-true symbol 86 e)) refl

not_both : false ≡ true → ⊥
not_both h = cc

tail_no_string : (stage : Stage) → is_tail stage ≡ true → is_string stage ≡ false
tail_no_string stages.Start tail = refl
tail_no_string (stages.Lead lead) tail = refl
tail_no_string stages.Body tail = refl
tail_no_string (stages.Led lead) tail = refl
tail_no_string (stages.Once first) tail = refl
tail_no_string stages.InString tail = absurd cc
tail_no_string stages.Nines tail = refl
tail_no_string (stages.Letter letter) tail = refl
tail_no_string stages.Ended tail = refl

both_ways : {A : Type 0} (b : Bool) → b ≡ true → b ≡ false → A
both_ways true e f = absurd cc
both_ways false e f = absurd cc

-- a mark is still there with one byte more
any_more : (v : Bool) (byte : ℕ) (bytes : List ℕ) → list_any is_mark bytes ≡ true → list_any is_mark (if v then bytes else byte ∷ bytes) ≡ true
any_more true byte bytes is = is
any_more false byte bytes is = or_right (is_mark byte) (list_any is_mark bytes) is

any_first : (v : Bool) (byte : ℕ) (bytes : List ℕ) → v ≡ false → (is_mark byte || list_any is_mark bytes) ≡ true → list_any is_mark (if v then bytes else byte ∷ bytes) ≡ true
any_first true byte bytes other is = absurd cc
any_first false byte bytes other is = is

abbrev pen : Shape → Bool → Bool → Pen
pen shape begun shown = record { shape = shape; begun = begun; shown = shown }

module _ (field : Field) (visible : field.blank ≡ false) (below : field.minus ≡ true) (few : field.digits ≤ 18) (some : field.number ≡ 0 → ⊥) where
  -- what is known of a symbol that comes
  counts_at : (symbol : ℕ) (shape next : Shape) → behind symbol shape ≡ Some next → Counts (has_digit symbol next) shape next
  counts_at symbol shape next e = some_of (λ n. Counts (has_digit symbol n) shape n) (behind symbol shape) next e (behind_counts symbol shape)

  zeros_on : (symbol : ℕ) (shape next last : Shape) (rest : List ℕ) → behind symbol shape ≡ Some next → Come next rest last → digits last ≡ field.digits → above (field.digits - digits shape) field.number ≡ 0 → is_shown field symbol next ≡ false → above (field.digits - digits next) field.number ≡ 0
  zeros_on symbol shape next last rest e come full zeros hidden =
      let within : digits next ≤ field.digits = omega (arith, full, come_digits come (omega (arith, full, few))) in
      zeros_next (has_digit symbol next) field shape next (counts_at symbol shape next e) within few zeros
      (λ has. hidden_is_zero field symbol false next has hidden)

  -- ---- a sign that floats comes

  float_comes : (text : List ℕ) (shape last : Shape) → is_sign field.string ≡ true → Come shape text last → digits last ≡ field.digits → above (field.digits - digits shape) field.number ≡ 0 → (is_mark (hidden_byte field (shows_next field (pen shape true false) (slice_get text 0))) || list_any is_mark (written field (pen shape true false) text)) ≡ true
  unfolding written
  float_comes [] shape last sign ended full zeros =
      let none : field.digits - digits shape ≡ 0 = omega (arith, full) in
      absurd (some (sym (above_none field.number) ∙ ap (λ n. above n field.number) (sym none) ∙ zeros))
  float_comes (byte ∷ rest) shape last sign (comes {next} e come) full zeros =
      let symbol : ℕ = to_ascii_uppercase byte in
      let to_next : moved symbol shape ≡ next = moved_to symbol shape next e in
      let ahead : Option ℕ = slice_get rest 0 in
      let hides : ℕ = hidden_byte field (shows_next field (pen shape true false) (Some byte)) in
      elim (cases_Bool (is_shown field symbol next)) [
        | inl shown ↦
            or_left (is_mark hides) (list_any is_mark (written field (pen shape true false) (byte ∷ rest)))
            (float_marks field visible below (shows_next field (pen shape true false) (Some byte)) sign (ap (λ (s : Shape). is_shown field symbol s) to_next ∙ shown))
        | inr hidden ↦
            let other : (symbol == symbol_v) ≡ false = elim (cases_Bool (symbol == symbol_v)) [
              | inl v ↦ both_ways (is_shown field symbol next) (v_shown field symbol next v) hidden
              | inr other ↦ other
            ] in
            let rest_on = float_comes rest next last sign come full (zeros_on symbol shape next last rest e come full zeros hidden) in
            let byte_on : is_mark (byte_of field symbol (pen next true false) ahead) || list_any is_mark (written field (pen next true false) rest) ≡ true =
            ap (λ b. is_mark b || list_any is_mark (written field (pen next true false) rest)) (hidden_at field visible below symbol (pen next true false) ahead refl) ∙ rest_on in
            or_right (is_mark hides) (list_any is_mark (written field (pen shape true false) (byte ∷ rest)))
            (subst (λ (s : Shape). list_any is_mark (if symbol == symbol_v then written field (passed_to field symbol (pen shape true false) s) rest else byte_of field symbol (passed_to field symbol (pen shape true false) s) ahead ∷ written field (passed_to field symbol (pen shape true false) s) rest) ≡ true) (sym to_next)
            (subst (λ sh. list_any is_mark (if symbol == symbol_v then written field (pen next true sh) rest else byte_of field symbol (pen next true sh) ahead ∷ written field (pen next true sh) rest) ≡ true) (sym hidden)
            (any_first (symbol == symbol_v) (byte_of field symbol (pen next true false) ahead) (written field (pen next true false) rest) other byte_on)))
      ]

  -- ---- the first sign

  -- a sign or a letter is no V
  no_v : (symbol : ℕ) → (is_sign symbol || is_tail_letter symbol) ≡ true → (symbol == symbol_v) ≡ false
  no_v symbol is = elim (cases_Bool (symbol == symbol_v)) [
    | inl v ↦ absurd (not_both (ap (λ s. is_sign s || is_tail_letter s) (sym (eqb-true symbol 86 v)) ∙ is))
    | inr other ↦ other
  ]

  tail_marks : (symbol : ℕ) (on : Pen) (ahead : Option ℕ) → (is_sign symbol || is_tail_letter symbol) ≡ true → is_tail on.shape.stage ≡ true → on.shown ≡ true → is_mark (byte_of field symbol on ahead) ≡ true
  tail_marks symbol on ahead kind tail shown =
      ap is_mark (shown_at field visible below symbol on ahead (and_right on.begun (not on.shown) (not_from_true on.shown shown)))
      ∙ elim (or_cases (is_sign symbol) (is_tail_letter symbol) kind) [
        | inl sign ↦ sign_marks field visible below symbol on.shape sign (tail_no_string on.shape.stage tail)
        | inr letter ↦ letter_marks field visible below symbol on.shape letter tail
      ]

  -- a sign that is the lead, or the first that floats
  first_marks : (symbol : ℕ) (next last : Shape) (begun shown : Bool) (rest : List ℕ) → is_sign symbol ≡ true → is_string next.stage ≡ false → (begun ≡ true → is_sign field.string ≡ true) → Come next rest last → digits last ≡ field.digits → (shown ≡ false → above (field.digits - digits next) field.number ≡ 0) → (is_mark (byte_of field symbol (pen next begun shown) (slice_get rest 0)) || list_any is_mark (written field (pen next begun shown) rest)) ≡ true
  first_marks symbol next last true false rest sign other string come full zeros =
      ap (λ b. is_mark b || list_any is_mark (written field (pen next true false) rest)) (hidden_at field visible below symbol (pen next true false) (slice_get rest 0) refl)
      ∙ float_comes rest next last (string refl) come full (zeros refl)
  first_marks symbol next last true true rest sign other string come full zeros =
      or_left (is_mark (byte_of field symbol (pen next true true) (slice_get rest 0))) (list_any is_mark (written field (pen next true true) rest))
      (ap is_mark (shown_at field visible below symbol (pen next true true) (slice_get rest 0) refl) ∙ sign_marks field visible below symbol next sign other)
  first_marks symbol next last false shown rest sign other string come full zeros =
      or_left (is_mark (byte_of field symbol (pen next false shown) (slice_get rest 0))) (list_any is_mark (written field (pen next false shown) rest))
      (ap is_mark (shown_at field visible below symbol (pen next false shown) (slice_get rest 0) refl) ∙ sign_marks field visible below symbol next sign other)

  -- the byte of a symbol that brings the sign, or a later one, is a mark
  turn_marks : (symbol : ℕ) (shape next last : Shape) (begun shown : Bool) (rest : List ℕ) → behind symbol shape ≡ Some next → Turn symbol shape.stage next → (is_start shape.stage ≡ true → begun ≡ false) → NoneYet shape → 1 ≤ digits last → field.string ≡ last.string → Come next rest last → digits last ≡ field.digits → (shown ≡ false → above (field.digits - digits shape) field.number ≡ 0) → list_any is_mark (if symbol == symbol_v then written field (pen next (begun || symbol == field.string) (shown || is_shown field symbol next)) rest else byte_of field symbol (pen next (begun || symbol == field.string) (shown || is_shown field symbol next)) (slice_get rest 0) ∷ written field (pen next (begun || symbol == field.string) (shown || is_shown field symbol next)) rest) ≡ true
  turn_marks symbol shape next last begun shown rest e turn start none one same come full zeros =
      let begun_on : Bool = begun || symbol == field.string in
      let shown_on : Bool = shown || is_shown field symbol next in
      let zeros_next : shown_on ≡ false → above (field.digits - digits next) field.number ≡ 0 =
      λ hidden. let parts = or_parts shown (is_shown field symbol next) hidden in zeros_on symbol shape next last rest e come full (zeros parts.0) parts.1 in
      let bytes : List ℕ = written field (pen next begun_on shown_on) rest in
      let byte : ℕ = byte_of field symbol (pen next begun_on shown_on) (slice_get rest 0) in
      elim turn [
        | in_tail tail kind ↦
            let seen : shown_on ≡ true = elim (cases_Bool shown_on) [
              | inl seen ↦ seen
              | inr hidden ↦
                  let right : field.digits - digits next ≡ 0 = omega (arith, full, tail_digits come tail) in
                  absurd (some (sym (above_none field.number) ∙ ap (λ n. above n field.number) (sym right) ∙ zeros_next hidden))
            ] in
            any_first (symbol == symbol_v) byte bytes (no_v symbol kind)
            (or_left (is_mark byte) (list_any is_mark bytes) (tail_marks symbol (pen next begun_on shown_on) (slice_get rest 0) kind tail seen))
        | in_lead sign at_start at ↦
            any_first (symbol == symbol_v) byte bytes (no_v symbol (or_left (is_sign symbol) (is_tail_letter symbol) sign))
            (first_marks symbol next last begun_on shown_on rest sign (ap is_string at)
            (λ h. subst (λ s. is_sign s ≡ true) (eqb-true symbol field.string (sym (ap (λ b. b || symbol == field.string) (start at_start)) ∙ h)) sign)
            come full zeros_next)
        | floats sign at ↦
            any_first (symbol == symbol_v) byte bytes (no_v symbol (or_left (is_sign symbol) (is_tail_letter symbol) sign))
            (first_marks symbol next last begun_on shown_on rest sign (ap is_string at)
            (λ h. subst (λ s. is_sign s ≡ true) (sym (same ∙ once_floats symbol next last rest come (none_next symbol shape next e none) one at)) sign)
            come full zeros_next)
      ]

  sign_comes : (text : List ℕ) (shape last : Shape) (begun shown : Bool) → Come shape text last → shape.sign ≡ false → last.sign ≡ true → (is_start shape.stage ≡ true → begun ≡ false) → NoneYet shape → 1 ≤ digits last → field.string ≡ last.string → digits last ≡ field.digits → (shown ≡ false → above (field.digits - digits shape) field.number ≡ 0) → list_any is_mark (written field (pen shape begun shown) text) ≡ true
  unfolding written
  sign_comes [] shape last begun shown ended before after start none one same full zeros = both_ways shape.sign after before
  sign_comes (byte ∷ rest) shape last begun shown (comes {next} e come) before after start none one same full zeros =
      let symbol : ℕ = to_ascii_uppercase byte in
      let to_next : moved symbol shape ≡ next = moved_to symbol shape next e in
      let step = step_of symbol shape next e in
      let begun_on : Bool = begun || symbol == field.string in
      let shown_on : Bool = shown || is_shown field symbol next in
      let on : Pen = pen next begun_on shown_on in
      subst (λ (s : Shape). list_any is_mark (if symbol == symbol_v then written field (passed_to field symbol (pen shape begun shown) s) rest else byte_of field symbol (passed_to field symbol (pen shape begun shown) s) (slice_get rest 0) ∷ written field (passed_to field symbol (pen shape begun shown) s) rest) ≡ true) (sym to_next)
      (elim (cases_Bool next.sign) [
        | inl signed ↦ elim (step.signs signed) [
          | inl already ↦ both_ways shape.sign already before
          | inr turn ↦ turn_marks symbol shape next last begun shown rest e turn start none one same come full zeros
        ]
        | inr unsigned ↦
            any_more (symbol == symbol_v) (byte_of field symbol on (slice_get rest 0)) (written field on rest)
            (sign_comes rest next last begun_on shown_on come unsigned after (λ h. both_ways (is_start next.stage) h step.starts) (none_next symbol shape next e none) one same full
            (λ hidden. let parts = or_parts shown (is_shown field symbol next) hidden in zeros_on symbol shape next last rest e come full (zeros parts.0) parts.1))
      ])

-- ---- the law

negative_some : (z : ℤ) → is_negative z ≡ true → unsigned_abs z ≡ 0 → ⊥
negative_some (pos n) h e = grind arith
negative_some (negsuc n) h e = omega arith

pub negatives_are_marked : NegativesAreMarked
negatives_are_marked mask value is sign below =
    let whole = mask_whole mask is in
    let shape : Shape = shape_of mask in
    let field : Field = field_of value shape in
    let same : shape ≡ whole.last = come_last whole.come in
    let full : digits whole.last ≡ field.digits = ap (λ (s : Shape). digits s) (sym same) in
    let few : field.digits ≤ 18 = omega (arith, full, whole.number.few_digits) in
    let some : field.number ≡ 0 → ⊥ = negative_some (cut value shape) below in
    let visible : field.blank ≡ false = and_right (not shape.nines) (field.number == 0) (ne_eqb field.number 0 some) in
    let right : field.digits - digits empty ≡ field.digits = omega arith in
    sign_comes field visible below few some mask empty whole.last false false whole.come refl
    (sym (ap (λ (s : Shape). s.sign) same) ∙ sign) (λ h. refl) (λ h. omega arith) whole.number.some_digits
    (ap (λ (s : Shape). s.string) same) full
    (λ h. ap (λ n. above n field.number) right ∙ nothing_above field.digits field.number (cut_short value shape))
