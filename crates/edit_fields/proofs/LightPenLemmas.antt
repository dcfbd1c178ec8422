-- Along a mask a light pen shows what a pen shows that knows the shape.
use Rattle.std.proofs.Common.{◌≡◌, ℕ, ◌+◌, ◌-◌, ◌≤◌, Bool, true, false, not, ◌==◌, ◌&&◌, ◌||◌, if◌then◌else◌, List, [], ◌∷◌, slice_get, Option, Some, None, ◌⊎◌, inl, inr, refl, sym, ap, ◌∙◌, subst, arith}
use Rattle.std.proofs.lemmas.Bool.{cases_Bool, eq-eqb, eqb-true, or_cases, or_left, or_right}
use Rattle.std.specs.Char.{to_ascii_uppercase}
use Rattle.edit_fields.specs.declared.shape.Stage.{Stage}
use Rattle.edit_fields.specs.declared.shape.Stage.TheVariants as stages
use Rattle.edit_fields.specs.declared.shape.Shape.{Shape}
use Rattle.edit_fields.specs.declared.field.Field.{Field}
use Rattle.edit_fields.specs.declared.edited.Pen.{Pen}
use Rattle.edit_fields.specs.Symbol.{is_currency_or_sign, is_sign, is_suppressor, space, symbol_9, symbol_b, symbol_d, symbol_dollar, symbol_v}
use Rattle.edit_fields.specs.Shape.{behind, digits, empty}
use Rattle.edit_fields.specs.Field.{IsMask, digit_of, field_of, shape_of}
use Rattle.edit_fields.specs.Edited.{blank_byte, byte_by, byte_of, digit_at, has_digit, hidden_byte, is_shown, is_string, is_tail, letter_byte, passed_to, shows_next, sign_byte, with_byte, written}
use Rattle.edit_fields.specs.LightPen.{LightPen, is_counted, is_letter, is_seen, light_byte, light_shows, light_written, other_byte, right_behind}
use Rattle.edit_fields.specs.Laws.{LightPensAreEnough}
use Rattle.edit_fields.proofs.BranchLemmas.{else_taken, or_none, some_of, then_taken}
use Rattle.edit_fields.proofs.MaskLemmas.{Come, ended, comes, come_last, mask_whole, moved_to}
use Rattle.edit_fields.proofs.CountLemmas.{Counts, behind_counts, come_digits, sign_has, suppressor_has}
use Rattle.edit_fields.proofs.StepLemmas.{will}
use Rattle.edit_fields.proofs.ComeLemmas.{NoneYet, none_next, once_floats, settled}
use Rattle.edit_fields.proofs.LightSteps.{dollars_of, half_of, is_half_db, is_letter_behind, is_ready, is_string_symbol, leads_of, leads_to, no_zero, signs_of, suppressors_end, tails_of}

-- ---- choices

both : {A : Type 0} (b : Bool) → b ≡ true → b ≡ false → A
both true e f = absurd cc
both false e f = absurd cc

nothing : {A : Type 0} (x : ℕ) → None ≡ Some x → A
nothing x e = absurd cc

-- the first of what floats is no digit
first_floats : (begun floats : Bool) → begun ≡ false → floats ≡ true → (begun || not floats) ≡ false
first_floats true floats e f = absurd cc
first_floats false true e f = refl
first_floats false false e f = absurd cc

first_of : (a b d : Bool) → a ≡ true → (a || b || d) ≡ true
first_of true b d e = refl
first_of false b d e = absurd cc

last_of : (a b d x : Bool) → a ≡ false → b ≡ false → d ≡ false → (a || b || d || x) ≡ x
last_of true b d x e f g = absurd cc
last_of false true d x e f g = absurd cc
last_of false false true x e f g = absurd cc
last_of false false false x e f g = refl

said_again : (a b d x : Bool) → (a || b || d || (a && x)) ≡ (a || b || d)
said_again true b d x = refl
said_again false true d x = refl
said_again false false true x = refl
said_again false false false x = refl

no_string : (sign dollar suppressor : Bool) → sign ≡ false → dollar ≡ false → suppressor ≡ false → ((sign || dollar) || suppressor) ≡ false
no_string true dollar suppressor e f g = absurd cc
no_string false true suppressor e f g = absurd cc
no_string false false true e f g = absurd cc
no_string false false false e f g = refl

-- the tail is asked of where the symbol is no digit and no sign
same_tail : (digit sign one other : Bool) (a b x y : ℕ) → (sign ≡ false → one ≡ other) → (if digit then a else if sign then b else if one then x else y) ≡ (if digit then a else if sign then b else if other then x else y)
same_tail true sign one other a b x y e = refl
same_tail false true one other a b x y e = refl
same_tail false false one other a b x y e = ap (λ (t : Bool). if t then x else y) (e refl)

will_be : (stage : Stage) (string : ℕ) → is_string stage ≡ true → will stage string ≡ Some string
will_be stages.Start string is = absurd cc
will_be (stages.Lead lead) string is = absurd cc
will_be stages.Body string is = absurd cc
will_be (stages.Led lead) string is = absurd cc
will_be (stages.Once first) string is = absurd cc
will_be stages.InString string is = refl
will_be stages.Nines string is = absurd cc
will_be (stages.Letter letter) string is = absurd cc
will_be stages.Ended string is = absurd cc

-- ---- what strings are of

-- no string yet, or of such a symbol
abbrev HasKind : ℕ → Type 0
HasKind string = (string ≡ 0) ⊎ (is_string_symbol string ≡ true)

kind_next : (c : ℕ) (shape next : Shape) → behind c shape ≡ Some next → HasKind shape.string → HasKind next.string
kind_next c shape next e kind = elim (leads_of c shape next e).string [
  | inl same ↦ subst HasKind (sym same) kind
  | inr is ↦ inr (ap is_string_symbol is.0 ∙ is.1)
]

kind_last : {shape last : Shape} {text : List ℕ} → Come shape text last → HasKind shape.string → HasKind last.string
kind_last ended kind = kind
kind_last (comes {shape} {next} {last} {byte} {rest} e come) kind = kind_last come (kind_next (to_ascii_uppercase byte) shape next e kind)

-- neither the 9 nor a point
record NoPoint (c : ℕ) : Type 0 where
  pub nine : (c == 57) ≡ false
  pub period : (c == 46) ≡ false
  pub v : (c == 86) ≡ false

string_no_point : (c : ℕ) → is_string_symbol c ≡ true → NoPoint c
string_no_point c is = elim (or_cases (is_currency_or_sign c) (is_suppressor c) is) [
  | inl floats ↦ elim (or_cases (is_sign c) (c == 36) floats) [
    | inl sign ↦ elim (or_cases (c == 43) (c == 45) sign) [
      | inl e ↦ subst NoPoint (sym (eqb-true c 43 e)) (record { nine = refl; period = refl; v = refl })
      | inr e ↦ subst NoPoint (sym (eqb-true c 45 e)) (record { nine = refl; period = refl; v = refl })
    ]
    | inr e ↦ subst NoPoint (sym (eqb-true c 36 e)) (record { nine = refl; period = refl; v = refl })
  ]
  | inr suppresses ↦ elim (or_cases (c == 90) (c == 42) suppresses) [
    | inl e ↦ subst NoPoint (sym (eqb-true c 90 e)) (record { nine = refl; period = refl; v = refl })
    | inr e ↦ subst NoPoint (sym (eqb-true c 42 e)) (record { nine = refl; period = refl; v = refl })
  ]
]

-- no string is of V
kind_no_v : (string : ℕ) → HasKind string → string ≡ 86 → ⊥
kind_no_v string kind v = elim (subst HasKind v kind) [ inl e ↦ absurd cc | inr e ↦ absurd cc ]

-- ---- what is known of the symbols so far

abbrev pen : Shape → Bool → Bool → Pen
pen shape begun shown = record { shape = shape; begun = begun; shown = shown }

module _ (field : Field) (last : Shape) (string : field.string ≡ last.string) (full : digits last ≡ field.digits) (some : 1 ≤ digits last) (few : digits last ≤ 18) (kind : HasKind last.string) where
  record Known (shape : Shape) (begun : Bool) : Type 0 where
    -- where the string's symbol goes on with it, the string has begun
    pub leads : (x : ℕ) → leads_to shape.stage shape.string ≡ Some x → x ≡ field.string → begun ≡ true
    -- the sign of a string is the only one
    pub sign : begun ≡ true → is_sign field.string ≡ true → shape.sign ≡ true
    -- a `$` that comes again floats
    pub dollar : begun ≡ true → field.string ≡ 36 → is_ready shape.stage ≡ true
    pub none : NoneYet shape

  module _ (c : ℕ) (shape next : Shape) (rest : List ℕ) (e : behind c shape ≡ Some next) (come : Come next rest last) where
    -- what is within the string is its symbol
    string_is : NoneYet shape → is_string next.stage ≡ true → next.string ≡ c → c ≡ field.string
    string_is none is same =
        sym (string ∙ settled c next last rest come (none_next c shape next e none) some
        (will_be next.stage next.string is ∙ ap (λ n. Some n) same))

    known_next : (begun : Bool) → Known shape begun → Known next (begun || c == field.string)
    known_next begun known = record {
      leads = λ x h same. elim ((leads_of c shape next e).leads x h) [
        | inl before ↦ or_left begun (c == field.string) (known.leads x before same)
        | inr is ↦ or_right begun (c == field.string) (eq-eqb c field.string (is ∙ same))
      ];
      sign = λ h is. elim (or_cases begun (c == field.string) h) [
        | inl b ↦ (leads_of c shape next e).signs (known.sign b is)
        | inr same ↦
            let at : c ≡ field.string = eqb-true c field.string same in
            let signs = signs_of c shape next (ap is_sign at ∙ is) e in
            elim (cases_Bool (is_string next.stage)) [
              | inl within ↦ (leads_of c shape next e).signs (known.sign (known.leads c (signs.string within).0 at) is)
              | inr first ↦ signs.first first
            ]
      ];
      dollar = λ h is. elim (or_cases begun (c == field.string) h) [
        | inl b ↦ elim ((leads_of c shape next e).ready (known.dollar b is)) [
          | inl ready ↦ ready
          | inr once ↦
              let at : c ≡ 36 = sym (string ∙ once_floats c next last rest come (none_next c shape next e known.none) some once.1) ∙ is in
              both (is_sign c) once.0 (ap is_sign at)
        ]
        | inr same ↦
            let at : c ≡ 36 = eqb-true c field.string same ∙ is in
            (dollars_of shape next (subst (λ s. behind s shape ≡ Some next) at e)).ready
      ];
      none = none_next c shape next e known.none;
    }

    counted_then : (begun : Bool) → (c == field.string) ≡ true → is_counted field c begun ≡ (begun || not (is_currency_or_sign field.string))
    counted_then begun same = then_taken (c == field.string) (begun || not (is_currency_or_sign field.string)) (c == symbol_9) same

    counted_else : (begun : Bool) → (c == field.string) ≡ false → is_counted field c begun ≡ (c == symbol_9)
    counted_else begun other = else_taken (c == field.string) (begun || not (is_currency_or_sign field.string)) (c == symbol_9) other

    -- a sign or `$` has a digit where it comes again
    floats_same : (begun : Bool) → Known shape begun → (c == symbol_9) ≡ false → is_currency_or_sign c ≡ true → (is_string next.stage ≡ true → (leads_to shape.stage shape.string ≡ Some c) × (next.string ≡ c)) → (begun ≡ true → c ≡ field.string → is_string next.stage ≡ true) → is_string next.stage ≡ is_counted field c begun
    floats_same begun known nine is within again = elim (cases_Bool (is_string next.stage)) [
      | inl in_it ↦
          let at : c ≡ field.string = string_is known.none in_it (within in_it).1 in
          let goes_on : begun ≡ true = known.leads c (within in_it).0 at in
          in_it ∙ sym (counted_then begun (eq-eqb c field.string at) ∙ or_left begun (not (is_currency_or_sign field.string)) goes_on)
      | inr out ↦ elim (cases_Bool (c == field.string)) [
        | inl same ↦
            let at : c ≡ field.string = eqb-true c field.string same in
            elim (cases_Bool begun) [
              | inl b ↦ both (is_string next.stage) (again b at) out
              | inr first ↦ out ∙ sym (counted_then begun same ∙ first_floats begun (is_currency_or_sign field.string) first (ap is_currency_or_sign (sym at) ∙ is))
            ]
        | inr other ↦ out ∙ sym (counted_else begun other ∙ nine)
      ]
    ]

    sign_same : (begun : Bool) → Known shape begun → (c == symbol_9) ≡ false → is_sign c ≡ true → has_digit c next ≡ is_counted field c begun
    sign_same begun known nine is =
        let signs = signs_of c shape next is e in
        sign_has c next is
        ∙ floats_same begun known nine (or_left (is_sign c) (c == symbol_dollar) is) signs.string
        (λ b at. signs.again (known.sign b (ap is_sign (sym at) ∙ is)))

    dollar_same : (begun : Bool) → Known shape begun → (c == symbol_9) ≡ false → (c == symbol_dollar) ≡ true → has_digit c next ≡ is_counted field c begun
    dollar_same begun known nine is =
        let at : c ≡ 36 = eqb-true c 36 is in
        let dollars = dollars_of shape next (subst (λ s. behind s shape ≡ Some next) at e) in
        ap (λ s. has_digit s next) at
        ∙ floats_same begun known nine (or_right (is_sign c) (c == symbol_dollar) is)
        (λ within. ((dollars.string within).0 ∙ ap (λ n. Some n) (sym at), (dollars.string within).1 ∙ sym at))
        (λ b same. dollars.again (known.dollar b (sym same ∙ at)))

    suppressor_fixed : is_suppressor c ≡ true → is_currency_or_sign c ≡ false
    suppressor_fixed is = elim (or_cases (c == 90) (c == 42) is) [
      | inl at ↦ ap is_currency_or_sign (eqb-true c 90 at)
      | inr at ↦ ap is_currency_or_sign (eqb-true c 42 at)
    ]

    suppressor_same : (begun : Bool) → Known shape begun → is_suppressor c ≡ true → has_digit c next ≡ is_counted field c begun
    suppressor_same begun known is =
        let ends = suppressors_end c shape next is e in
        let at : c ≡ field.string = string_is known.none ends.0 ends.1 in
        let fixed : not (is_currency_or_sign field.string) ≡ true = ap (λ s. not (is_currency_or_sign s)) (sym at) ∙ ap not (suppressor_fixed is) in
        suppressor_has c next is
        ∙ sym (counted_then begun (eq-eqb c field.string at) ∙ or_right begun (not (is_currency_or_sign field.string)) fixed)

    string_kind : (c == field.string) ≡ true → is_string_symbol c ≡ true
    string_kind same =
        let at : c ≡ last.string = eqb-true c field.string same ∙ string in
        elim kind [
          | inl zero ↦ absurd (no_zero shape next (subst (λ s. behind s shape ≡ Some next) (at ∙ zero) e))
          | inr is ↦ ap is_string_symbol at ∙ is
        ]

    -- what isn't a string's symbol isn't this string's
    other_string : is_string_symbol c ≡ false → (c == field.string) ≡ false
    other_string other = elim (cases_Bool (c == field.string)) [
      | inl same ↦ both (is_string_symbol c) (string_kind same) other
      | inr apart ↦ apart
    ]

    counted_same : (begun : Bool) → Known shape begun → has_digit c next ≡ is_counted field c begun
    counted_same begun known = elim (cases_Bool (c == symbol_9)) [
      | inl nine ↦
          first_of (c == symbol_9) (is_suppressor c) (is_currency_or_sign c && is_string next.stage) nine
          ∙ sym (counted_else begun (other_string (ap is_string_symbol (eqb-true c 57 nine))) ∙ nine)
      | inr nine ↦ elim (cases_Bool (is_suppressor c)) [
        | inl is ↦ suppressor_same begun known is
        | inr suppressor ↦ elim (cases_Bool (is_sign c)) [
          | inl is ↦ sign_same begun known nine is
          | inr sign ↦ elim (cases_Bool (c == symbol_dollar)) [
            | inl is ↦ dollar_same begun known nine is
            | inr dollar ↦
                or_none (c == symbol_9) (is_suppressor c) (is_sign c) (c == symbol_dollar) (is_string next.stage) nine suppressor sign dollar
                ∙ sym (counted_else begun (other_string (no_string (is_sign c) (c == symbol_dollar) (is_suppressor c) sign dollar suppressor)) ∙ nine)
          ]
        ]
      ]
    ]

    right_by : (counts : Bool) (r : ℕ) → Counts counts shape next → digits next ≤ 18 → r ≡ field.digits - digits shape → right_behind counts r ≡ field.digits - digits next
    right_by true r (inl one) short is = omega (arith, one, is)
    right_by true r (inr past) short is = absurd (omega (arith, past, short))
    right_by false r same short is = omega (arith, same, is)

    right_next : (begun : Bool) (r : ℕ) → Known shape begun → r ≡ field.digits - digits shape → right_behind (is_counted field c begun) r ≡ field.digits - digits next
    right_next begun r known is =
        let counts = some_of (λ n. Counts (has_digit c n) shape n) (behind c shape) next e (behind_counts c shape) in
        ap (λ b. right_behind b r) (sym (counted_same begun known))
        ∙ right_by (has_digit c next) r counts (omega (arith, few, come_digits come few)) is

    seen_same : (begun : Bool) (r : ℕ) → Known shape begun → r ≡ field.digits - digits shape → is_shown field c next ≡ is_seen field c (is_counted field c begun) (right_behind (is_counted field c begun) r)
    seen_same begun r known is =
        let counted : Bool = is_counted field c begun in
        let right : ℕ = right_behind counted r in
        let some_digit : ℕ → Bool = λ n. not (digit_of n field.number == 0) in
        elim (cases_Bool (c == field.string)) [
          | inl same ↦
              let plain = string_no_point c (string_kind same) in
              last_of (c == symbol_9) (c == 46) (c == symbol_v) (has_digit c next && some_digit (field.digits - digits next)) plain.nine plain.period plain.v
              ∙ ap (λ b. b && some_digit (field.digits - digits next)) (counted_same begun known)
              ∙ ap (λ n. counted && some_digit n) (sym (right_next begun r known is))
              ∙ sym (then_taken (c == field.string) (counted && some_digit right) (c == symbol_9 || c == 46 || c == symbol_v) same)
          | inr other ↦
              ap (λ b. c == symbol_9 || c == 46 || c == symbol_v || (b && some_digit (field.digits - digits next))) (counted_same begun known ∙ counted_else begun other)
              ∙ said_again (c == symbol_9) (c == 46) (c == symbol_v) (some_digit (field.digits - digits next))
              ∙ sym (else_taken (c == field.string) (counted && some_digit right) (c == symbol_9 || c == 46 || c == symbol_v) other)
        ]

    -- the byte of the symbol
    byte_same : (begun shown : Bool) (l r : ℕ) → Known shape begun → r ≡ field.digits - digits shape → (l == symbol_d) ≡ is_half_db shape.stage → (ahead : Bool) → byte_by field c (pen next (begun || c == field.string) (shown || is_seen field c (is_counted field c begun) (right_behind (is_counted field c begun) r))) ahead ≡ light_byte field c (record { last = l; right = r; begun = begun; shown = shown }) ahead
    byte_same begun shown l r known is half ahead =
        let counted : Bool = is_counted field c begun in
        let right : ℕ = right_behind counted r in
        let hides : Bool = (begun || c == field.string) && not (shown || is_seen field c counted right) in
        let whole : ℕ → ℕ = λ n. if field.blank then blank_byte field c else if hides then hidden_byte field ahead else n in
        let insertion : ℕ = if c == symbol_b then space else c in
        ap whole
        (same_tail (has_digit c next) (is_sign c) (is_tail next.stage) (is_letter l c) (48 + digit_at field next) (sign_byte field.minus c) (letter_byte field c) insertion
        (λ unsigned. (tails_of c shape next unsigned e).0 ∙ ap (λ h. is_letter_behind h c) (sym half))
        ∙ ap (λ (b : Bool). if b then 48 + digit_at field next else other_byte field l c) (counted_same begun known)
        ∙ ap (λ n. if counted then 48 + digit_of n field.number else other_byte field l c) (sym (right_next begun r known is)))

  -- whether the next place is shown
  shows_same : (rest : List ℕ) (shape : Shape) (begun shown : Bool) (l r : ℕ) → Come shape rest last → Known shape begun → r ≡ field.digits - digits shape → shows_next field (pen shape begun shown) (slice_get rest 0) ≡ light_shows field (record { last = l; right = r; begun = begun; shown = shown }) (slice_get rest 0)
  shows_same [] shape begun shown l r come known is = refl
  shows_same (byte ∷ rest) shape begun shown l r (comes {next} e come) known is =
      ap (λ s. shown || is_shown field (to_ascii_uppercase byte) s) (moved_to (to_ascii_uppercase byte) shape next e)
      ∙ ap (λ b. shown || b) (seen_same (to_ascii_uppercase byte) shape next rest e come begun r known is)

  light_from : (text : List ℕ) (shape : Shape) (begun shown : Bool) (l r : ℕ) → Come shape text last → Known shape begun → r ≡ field.digits - digits shape → (l == symbol_d) ≡ is_half_db shape.stage → written field (pen shape begun shown) text ≡ light_written field (record { last = l; right = r; begun = begun; shown = shown }) text
  unfolding written light_written
  light_from [] shape begun shown l r come known is half = refl
  light_from (byte ∷ rest) shape begun shown l r (comes {next} e come) known is half =
      let c : ℕ = to_ascii_uppercase byte in
      let ahead : Option ℕ = slice_get rest 0 in
      let over : Bool = begun || c == field.string in
      let counted : Bool = is_counted field c begun in
      let right : ℕ = right_behind counted r in
      let seen : Bool = shown || is_seen field c counted right in
      let light : LightPen = record { last = l; right = r; begun = begun; shown = shown } in
      let known_on = known_next c shape next rest e come begun known in
      let right_on = right_next c shape next rest e come begun r known is in
      let shows : Bool = light_shows field (record { last = c; right = right; begun = over; shown = seen }) ahead in
      ap (λ (s : Shape). with_byte c (byte_of field c (passed_to field c (pen shape begun shown) s) ahead) (written field (passed_to field c (pen shape begun shown) s) rest)) (moved_to c shape next e)
      ∙ ap (λ b. with_byte c (byte_of field c (pen next over (shown || b)) ahead) (written field (pen next over (shown || b)) rest)) (seen_same c shape next rest e come begun r known is)
      ∙ ap (λ b. with_byte c (byte_by field c (pen next over seen) b) (written field (pen next over seen) rest)) (shows_same rest next over seen c right come known_on right_on)
      ∙ ap (λ n. with_byte c n (written field (pen next over seen) rest)) (byte_same c shape next rest e come begun shown l r known is half shows)
      ∙ ap (λ bytes. with_byte c (light_byte field c light shows) bytes)
      (light_from rest next over seen c right come known_on right_on (sym (half_of c shape next e)))

-- ---- the law

pub light_is_edited : LightPensAreEnough
light_is_edited mask value is =
    let whole = mask_whole mask is in
    let shape : Shape = shape_of mask in
    let field : Field = field_of value shape in
    let same : shape ≡ whole.last = come_last whole.come in
    let full : digits whole.last ≡ field.digits = ap (λ (s : Shape). digits s) (sym same) in
    let all : field.digits ≡ field.digits - digits empty = omega arith in
    sym (light_from field whole.last (ap (λ (s : Shape). s.string) same) full whole.number.some_digits whole.number.few_digits
    (kind_last whole.come (inl refl))
    mask empty false false 0 field.digits whole.come
    (record { leads = λ x e at. nothing x e; sign = λ h at. absurd cc; dollar = λ h at. absurd cc; none = λ h. omega arith })
    all refl)

-- the string of a mask isn't of V
pub mask_string : (mask : List ℕ) → IsMask mask → (shape_of mask).string ≡ 86 → ⊥
mask_string mask is v =
    let whole = mask_whole mask is in
    kind_no_v whole.last.string (kind_last whole.come (inl refl)) (ap (λ (s : Shape). s.string) (sym (come_last whole.come)) ∙ v)
