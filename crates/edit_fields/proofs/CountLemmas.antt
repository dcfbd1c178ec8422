-- How many digits a mask has behind one symbol more: one more where the symbol has one.
use Rattle.std.proofs.Common.{◌≡◌, ℕ, ◌+◌, ◌≤◌, Bool, true, false, ◌==◌, ◌&&◌, List, Option, IfSome, ◌⊎◌, inl, inr, refl, sym, subst, arith}
use Rattle.std.proofs.Math.Nat.{min-eq_left}
use Rattle.std.proofs.lemmas.Bool.{cases_lt, eqb-true, or_cases}
use Rattle.std.specs.Char.{to_ascii_uppercase}
use Rattle.edit_fields.specs.declared.shape.Stage.{Stage}
use Rattle.edit_fields.specs.declared.shape.Stage.TheVariants as stages
use Rattle.edit_fields.specs.declared.shape.Shape.{Shape}
use Rattle.edit_fields.specs.Symbol.{is_insertion, is_point, is_sign, is_suppressor, is_tail_letter, symbol_9, symbol_b, symbol_c, symbol_d, symbol_dollar, symbol_r}
use Rattle.edit_fields.specs.Shape.{again, begun, begun_signed, behind, body_by, digits, dollar_by, in_nines, in_string, insertion_by, last_letter_by, letter_by, nine_by, point_by, sign_behind_lead, sign_by, signed, suppressor_by, tally, with_digit}
use Rattle.edit_fields.specs.Edited.{has_digit, is_string, is_tail}
use Rattle.edit_fields.proofs.BranchLemmas.{either_way, if_some, or_none, some_of}
use Rattle.edit_fields.proofs.MaskLemmas.{Come, ended, comes}

-- one digit more, or past each limit; or as many
abbrev pub Counts : Bool → Shape → Shape → Type 0
Counts true shape next = (digits next ≡ digits shape + 1) ⊎ (255 ≤ digits next)
Counts false shape next = digits next ≡ digits shape

-- ---- one digit more

one_more_tally : (count : ℕ) → (tally count 1 ≡ count + 1) ⊎ (255 ≤ tally count 1)
one_more_tally count = elim (cases_lt (count + 1) 256) [
  | inl h ↦ inl (min-eq_left (omega arith))
  | inr h ↦ inr (grind arith)
]

pub with_digit_counts : (shape : Shape) → Counts true shape (with_digit shape)
with_digit_counts shape =
    either_way (λ next. Counts true shape next) shape.point _ _
    (λ _. elim (one_more_tally shape.part) [ inl h ↦ inl (omega (arith, h)) | inr h ↦ inr (omega (arith, h)) ])
    (λ _. elim (one_more_tally shape.whole) [ inl h ↦ inl (omega (arith, h)) | inr h ↦ inr (omega (arith, h)) ])

-- the stage stays where a digit is counted
pub with_digit_stage : (P : Stage → Type 0) (shape : Shape) → P shape.stage → P (with_digit shape).stage
with_digit_stage P shape p = either_way (λ (next : Shape). P next.stage) shape.point _ _ (λ _. p) (λ _. p)

-- what is in a string is counted
abbrev CountsString : Shape → Shape → Type 0
CountsString shape next = Counts (is_string next.stage) shape next

in_string_counts : (symbol : ℕ) (shape : Shape) → CountsString shape (in_string symbol shape)
in_string_counts symbol shape =
    subst (λ b. Counts b shape (in_string symbol shape))
    (sym (with_digit_stage (λ stage. is_string stage ≡ true) (record shape { stage = stages.InString; string = symbol }) refl))
    (with_digit_counts (record shape { stage = stages.InString; string = symbol }))

again_counts : (first symbol : ℕ) (shape : Shape) → IfSome (again first symbol shape) (CountsString shape)
again_counts first symbol shape = either_way (λ o. IfSome o (CountsString shape)) (first == symbol) _ _ (λ _. in_string_counts symbol shape) (λ _. tt)

-- ---- no digit more

signed_same : (stage : Stage) (shape : Shape) → IfSome (signed stage shape) (λ next. digits next ≡ digits shape)
signed_same stage shape = either_way (λ o. IfSome o (λ (next : Shape). digits next ≡ digits shape)) shape.sign _ _ (λ _. tt) (λ _. refl)

signed_counts : (stage : Stage) (shape : Shape) → is_string stage ≡ false → IfSome (signed stage shape) (CountsString shape)
signed_counts stage shape other =
    either_way (λ o. IfSome o (CountsString shape)) shape.sign _ _ (λ _. tt)
    (λ _. subst (λ b. Counts b shape (record shape { stage = stage; sign = true })) (sym other) refl)

begun_counts : (stage : Stage) (shape : Shape) → is_string stage ≡ false → IfSome (begun stage shape) (CountsString shape)
begun_counts stage shape other =
    either_way (λ o. IfSome o (CountsString shape)) shape.point _ _ (λ _. tt)
    (λ _. subst (λ b. Counts b shape (record shape { stage = stage })) (sym other) refl)

begun_signed_counts : (sign : ℕ) (shape : Shape) → IfSome (begun_signed sign shape) (CountsString shape)
begun_signed_counts sign shape = either_way (λ o. IfSome o (CountsString shape)) shape.point _ _ (λ _. tt) (λ _. signed_counts (stages.Once sign) shape refl)

-- ---- the kinds of symbols

lead_counts : (lead sign : ℕ) (shape : Shape) → IfSome (sign_behind_lead lead sign shape) (CountsString shape)
lead_counts lead sign shape =
    either_way (λ o. IfSome o (CountsString shape)) (lead == sign) _ _ (λ _. in_string_counts sign shape)
    (λ _. either_way (λ o. IfSome o (CountsString shape)) (lead == symbol_dollar) _ _ (λ _. begun_signed_counts sign shape) (λ _. tt))

sign_counts : (stage : Stage) (sign : ℕ) (shape : Shape) → IfSome (sign_by stage sign shape) (CountsString shape)
sign_counts stages.Start sign shape = signed_counts (stages.Lead sign) shape refl
sign_counts (stages.Lead lead) sign shape = lead_counts lead sign shape
sign_counts stages.Body sign shape = begun_signed_counts sign shape
sign_counts (stages.Led lead) sign shape = lead_counts lead sign shape
sign_counts (stages.Once first) sign shape = again_counts first sign shape
sign_counts stages.InString sign shape = either_way (λ o. IfSome o (CountsString shape)) (shape.string == sign) _ _ (λ _. in_string_counts sign shape) (λ _. signed_counts stages.Ended shape refl)
sign_counts stages.Nines sign shape = signed_counts stages.Ended shape refl
sign_counts (stages.Letter letter) sign shape = tt
sign_counts stages.Ended sign shape = tt

dollar_counts : (stage : Stage) (shape : Shape) → IfSome (dollar_by stage shape) (CountsString shape)
dollar_counts stages.Start shape = refl
dollar_counts (stages.Lead lead) shape = either_way (λ o. IfSome o (CountsString shape)) (lead == symbol_dollar) _ _ (λ _. in_string_counts symbol_dollar shape) (λ _. refl)
dollar_counts stages.Body shape = begun_counts (stages.Once symbol_dollar) shape refl
dollar_counts (stages.Led lead) shape = either_way (λ o. IfSome o (CountsString shape)) (lead == symbol_dollar) _ _ (λ _. in_string_counts symbol_dollar shape) (λ _. begun_counts (stages.Once symbol_dollar) shape refl)
dollar_counts (stages.Once first) shape = again_counts first symbol_dollar shape
dollar_counts stages.InString shape = again_counts shape.string symbol_dollar shape
dollar_counts stages.Nines shape = tt
dollar_counts (stages.Letter letter) shape = tt
dollar_counts stages.Ended shape = tt

-- Z and `*` count wherever they may come
string_counts : (symbol : ℕ) (shape : Shape) → Counts true shape (in_string symbol shape)
string_counts symbol shape = with_digit_counts (record shape { stage = stages.InString; string = symbol })

suppressor_counts : (stage : Stage) (symbol : ℕ) (shape : Shape) → IfSome (suppressor_by stage symbol shape) (Counts true shape)
suppressor_counts stages.Start symbol shape = string_counts symbol shape
suppressor_counts (stages.Lead lead) symbol shape = string_counts symbol shape
suppressor_counts stages.Body symbol shape = string_counts symbol shape
suppressor_counts (stages.Led lead) symbol shape = string_counts symbol shape
suppressor_counts (stages.Once first) symbol shape = tt
suppressor_counts stages.InString symbol shape = either_way (λ o. IfSome o (Counts true shape)) (shape.string == symbol) _ _ (λ _. string_counts symbol shape) (λ _. tt)
suppressor_counts stages.Nines symbol shape = tt
suppressor_counts (stages.Letter letter) symbol shape = tt
suppressor_counts stages.Ended symbol shape = tt

nines_counts : (shape : Shape) → Counts true shape (in_nines shape)
nines_counts shape = with_digit_counts (record shape { stage = stages.Nines; nines = true })

nine_counts : (stage : Stage) (shape : Shape) → IfSome (nine_by stage shape) (Counts true shape)
nine_counts stages.Start shape = nines_counts shape
nine_counts (stages.Lead lead) shape = nines_counts shape
nine_counts stages.Body shape = nines_counts shape
nine_counts (stages.Led lead) shape = nines_counts shape
nine_counts (stages.Once first) shape = tt
nine_counts stages.InString shape = either_way (λ o. IfSome o (Counts true shape)) (shape.part == 0) _ _ (λ _. nines_counts shape) (λ _. tt)
nine_counts stages.Nines shape = nines_counts shape
nine_counts (stages.Letter letter) shape = tt
nine_counts stages.Ended shape = tt

abbrev Same : Shape → Shape → Type 0
Same shape next = digits next ≡ digits shape

body_same : (stage : Stage) (shape : Shape) → IfSome (body_by stage shape) (Same shape)
body_same stages.Start shape = refl
body_same (stages.Lead lead) shape = refl
body_same stages.Body shape = refl
body_same (stages.Led lead) shape = refl
body_same (stages.Once first) shape = refl
body_same stages.InString shape = refl
body_same stages.Nines shape = refl
body_same (stages.Letter letter) shape = tt
body_same stages.Ended shape = tt

insertion_same : (stage : Stage) (symbol : ℕ) (shape : Shape) → IfSome (insertion_by stage symbol shape) (Same shape)
insertion_same stages.Start symbol shape = refl
insertion_same (stages.Lead lead) symbol shape = refl
insertion_same stages.Body symbol shape = refl
insertion_same (stages.Led lead) symbol shape = refl
insertion_same (stages.Once first) symbol shape = refl
insertion_same stages.InString symbol shape = refl
insertion_same stages.Nines symbol shape = refl
insertion_same (stages.Letter letter) symbol shape = either_way (λ o. IfSome o (Same shape)) (letter == symbol_d && symbol == symbol_b) _ _ (λ _. refl) (λ _. tt)
insertion_same stages.Ended symbol shape = tt

point_same : (stage : Stage) (shape : Shape) → IfSome (point_by stage shape) (Same shape)
point_same stage shape = either_way (λ o. IfSome o (Same shape)) shape.point _ _ (λ _. tt) (λ _. body_same stage (record shape { point = true }))

letter_same : (stage : Stage) (letter : ℕ) (shape : Shape) → IfSome (letter_by stage letter shape) (Same shape)
letter_same stages.Start letter shape = tt
letter_same (stages.Lead lead) letter shape = tt
letter_same stages.Body letter shape = tt
letter_same (stages.Led lead) letter shape = tt
letter_same (stages.Once first) letter shape = tt
letter_same stages.InString letter shape = signed_same (stages.Letter letter) shape
letter_same stages.Nines letter shape = signed_same (stages.Letter letter) shape
letter_same (stages.Letter first) letter shape = tt
letter_same stages.Ended letter shape = tt

last_letter_same : (stage : Stage) (shape : Shape) → IfSome (last_letter_by stage shape) (Same shape)
last_letter_same stages.Start shape = tt
last_letter_same (stages.Lead lead) shape = tt
last_letter_same stages.Body shape = tt
last_letter_same (stages.Led lead) shape = tt
last_letter_same (stages.Once first) shape = tt
last_letter_same stages.InString shape = tt
last_letter_same stages.Nines shape = tt
last_letter_same (stages.Letter letter) shape = either_way (λ o. IfSome o (Same shape)) (letter == symbol_c) _ _ (λ _. refl) (λ _. tt)
last_letter_same stages.Ended shape = tt

-- ---- which symbols have digits

pub sign_has : (symbol : ℕ) (next : Shape) → is_sign symbol ≡ true → has_digit symbol next ≡ is_string next.stage
sign_has symbol next is = elim (or_cases (symbol == 43) (symbol == 45) is) [
  | inl e ↦ subst (λ s. has_digit s next ≡ is_string next.stage) (sym (eqb-true symbol 43 e)) refl
  | inr e ↦ subst (λ s. has_digit s next ≡ is_string next.stage) (sym (eqb-true symbol 45 e)) refl
]

pub suppressor_has : (symbol : ℕ) (next : Shape) → is_suppressor symbol ≡ true → has_digit symbol next ≡ true
suppressor_has symbol next is = elim (or_cases (symbol == 90) (symbol == 42) is) [
  | inl e ↦ subst (λ s. has_digit s next ≡ true) (sym (eqb-true symbol 90 e)) refl
  | inr e ↦ subst (λ s. has_digit s next ≡ true) (sym (eqb-true symbol 42 e)) refl
]

-- where a symbol is another one than these
others_same : (symbol : ℕ) (shape : Shape) (o : Option Shape) → symbol == symbol_9 ≡ false → is_suppressor symbol ≡ false → is_sign symbol ≡ false → symbol == symbol_dollar ≡ false → IfSome o (Same shape) → IfSome o (λ next. Counts (has_digit symbol next) shape next)
others_same symbol shape o nine suppressor sign dollar same =
    if_some (Same shape) (λ next. Counts (has_digit symbol next) shape next) o
    (λ next is. subst (λ b. Counts b shape next) (sym (or_none (symbol == symbol_9) (is_suppressor symbol) (is_sign symbol) (symbol == symbol_dollar) (is_string next.stage) nine suppressor sign dollar)) is) same

-- ---- all symbols

pub behind_counts : (symbol : ℕ) (shape : Shape) → IfSome (behind symbol shape) (λ next. Counts (has_digit symbol next) shape next)
unfolding behind
behind_counts symbol shape =
    let P : Option Shape → Type 0 = λ (o : Option Shape). IfSome o (λ (next : Shape). Counts (has_digit symbol next) shape next) in
    either_way P (is_sign symbol) _ _
    (λ is. if_some (CountsString shape) (λ next. Counts (has_digit symbol next) shape next) (sign_by shape.stage symbol shape) (λ next c. subst (λ b. Counts b shape next) (sym (sign_has symbol next is)) c) (sign_counts shape.stage symbol shape))
    (λ sign. either_way P (symbol == symbol_dollar) _ _
    (λ is. if_some (CountsString shape) (λ next. Counts (has_digit symbol next) shape next) (dollar_by shape.stage shape) (λ next c. subst (λ s. Counts (has_digit s next) shape next) (sym (eqb-true symbol 36 is)) c) (dollar_counts shape.stage shape))
    (λ dollar. either_way P (is_suppressor symbol) _ _
    (λ is. if_some (Counts true shape) (λ next. Counts (has_digit symbol next) shape next) (suppressor_by shape.stage symbol shape) (λ next c. subst (λ b. Counts b shape next) (sym (suppressor_has symbol next is)) c) (suppressor_counts shape.stage symbol shape))
    (λ suppressor. either_way P (symbol == symbol_9) _ _
    (λ is. if_some (Counts true shape) (λ next. Counts (has_digit symbol next) shape next) (nine_by shape.stage shape) (λ next c. subst (λ s. Counts (has_digit s next) shape next) (sym (eqb-true symbol 57 is)) c) (nine_counts shape.stage shape))
    (λ nine. either_way P (is_insertion symbol) _ _
    (λ _. others_same symbol shape (insertion_by shape.stage symbol shape) nine suppressor sign dollar (insertion_same shape.stage symbol shape))
    (λ _. either_way P (is_point symbol) _ _
    (λ _. others_same symbol shape (point_by shape.stage shape) nine suppressor sign dollar (point_same shape.stage shape))
    (λ _. either_way P (is_tail_letter symbol) _ _
    (λ _. others_same symbol shape (letter_by shape.stage symbol shape) nine suppressor sign dollar (letter_same shape.stage symbol shape))
    (λ _. either_way P (symbol == symbol_r) _ _
    (λ _. others_same symbol shape (last_letter_by shape.stage shape) nine suppressor sign dollar (last_letter_same shape.stage shape))
    (λ _. tt))))))))

-- ---- up to the last symbol

never_less : (counts : Bool) (shape next : Shape) → Counts counts shape next → digits next ≤ 18 → digits shape ≤ digits next
never_less true shape next (inl e) few = omega (arith, e)
never_less true shape next (inr past) few = absurd (omega (arith, past))
never_less false shape next e few = omega (arith, e)

pub come_digits : {shape last : Shape} {text : List ℕ} → Come shape text last → digits last ≤ 18 → digits shape ≤ digits last
come_digits ended few = omega arith
come_digits (comes {shape} {next} {last} {byte} {rest} e come) few =
    let more = come_digits come few in
    let counts = some_of (λ next. Counts (has_digit (to_ascii_uppercase byte) next) shape next) (behind (to_ascii_uppercase byte) shape) next e (behind_counts (to_ascii_uppercase byte) shape) in
    let less = never_less (has_digit (to_ascii_uppercase byte) next) shape next counts (omega (arith, more)) in
    omega (arith, more, less)

-- ---- the letters of a tail

letter_tail : (stage : Stage) (letter : ℕ) (shape : Shape) → IfSome (letter_by stage letter shape) (λ next. is_tail next.stage ≡ true)
letter_tail stages.Start letter shape = tt
letter_tail (stages.Lead lead) letter shape = tt
letter_tail stages.Body letter shape = tt
letter_tail (stages.Led lead) letter shape = tt
letter_tail (stages.Once first) letter shape = tt
letter_tail stages.InString letter shape = either_way (λ o. IfSome o (λ (next : Shape). is_tail next.stage ≡ true)) shape.sign _ _ (λ _. tt) (λ _. refl)
letter_tail stages.Nines letter shape = either_way (λ o. IfSome o (λ (next : Shape). is_tail next.stage ≡ true)) shape.sign _ _ (λ _. tt) (λ _. refl)
letter_tail (stages.Letter first) letter shape = tt
letter_tail stages.Ended letter shape = tt

last_letter_tail : (stage : Stage) (shape : Shape) → IfSome (last_letter_by stage shape) (λ next. is_tail next.stage ≡ true)
last_letter_tail stages.Start shape = tt
last_letter_tail (stages.Lead lead) shape = tt
last_letter_tail stages.Body shape = tt
last_letter_tail (stages.Led lead) shape = tt
last_letter_tail (stages.Once first) shape = tt
last_letter_tail stages.InString shape = tt
last_letter_tail stages.Nines shape = tt
last_letter_tail (stages.Letter letter) shape = either_way (λ o. IfSome o (λ (next : Shape). is_tail next.stage ≡ true)) (letter == symbol_c) _ _ (λ _. refl) (λ _. tt)
last_letter_tail stages.Ended shape = tt

abbrev EndsInTail : ℕ → Shape → Type 0
EndsInTail symbol shape = IfSome (behind symbol shape) (λ next. is_tail next.stage ≡ true)

pub letters_are_tails : (symbol : ℕ) (shape : Shape) → is_tail_letter symbol ≡ true → EndsInTail symbol shape
unfolding behind
letters_are_tails symbol shape is = elim (or_cases (symbol == 67) (symbol == 68) is) [
  | inl e ↦ subst (λ s. EndsInTail s shape) (sym (eqb-true symbol 67 e)) (letter_tail shape.stage 67 shape)
  | inr e ↦ subst (λ s. EndsInTail s shape) (sym (eqb-true symbol 68 e)) (letter_tail shape.stage 68 shape)
]

pub last_letters_are_tails : (symbol : ℕ) (shape : Shape) → symbol == symbol_r ≡ true → EndsInTail symbol shape
unfolding behind
last_letters_are_tails symbol shape e = subst (λ s. EndsInTail s shape) (sym (eqb-true symbol 82 e)) (last_letter_tail shape.stage shape)
