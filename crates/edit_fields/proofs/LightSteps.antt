-- What one symbol more does to what a light pen has to know of a mask: which symbol goes on with the
-- string, whether there is a sign, where a `$` floats, and what is the tail.
use Rattle.std.proofs.Common.{◌≡◌, ℕ, Bool, true, false, ◌==◌, ◌&&◌, ◌||◌, Option, Some, None, IfSome, ◌⊎◌, inl, inr, refl, sym, ap, ◌∙◌, subst}
use Rattle.std.proofs.lemmas.Bool.{and_parts, cases_Bool, eqb-true, or_cases, or_left, or_right}
use Rattle.edit_fields.specs.declared.shape.Stage.{Stage}
use Rattle.edit_fields.specs.declared.shape.Stage.TheVariants as stages
use Rattle.edit_fields.specs.declared.shape.Shape.{Shape}
use Rattle.edit_fields.specs.Symbol.{is_currency_or_sign, is_insertion, is_point, is_sign, is_suppressor, is_tail_letter, symbol_9, symbol_b, symbol_c, symbol_d, symbol_dollar, symbol_r}
use Rattle.edit_fields.specs.Shape.{again, begun, begun_signed, behind, body_by, dollar_by, in_nines, in_string, insertion_by, last_letter_by, letter_by, nine_by, point_by, sign_behind_lead, sign_by, signed, suppressor_by}
use Rattle.edit_fields.specs.Edited.{is_string, is_tail}
use Rattle.edit_fields.proofs.BranchLemmas.{either_way, some_of}

-- ---- words

-- the symbol that is in the string where it comes next
abbrev pub leads_to : Stage → ℕ → Option ℕ
leads_to (stages.Lead lead) string = Some lead
leads_to (stages.Led lead) string = Some lead
leads_to (stages.Once first) string = Some first
leads_to stages.InString string = Some string
leads_to _ string = None

-- where a `$` that may come is in the string
abbrev pub is_ready : Stage → Bool
is_ready stages.Start = false
is_ready (stages.Lead lead) = lead == symbol_dollar
is_ready stages.Body = false
is_ready (stages.Led lead) = lead == symbol_dollar
is_ready (stages.Once first) = first == symbol_dollar
is_ready stages.InString = true
is_ready stages.Nines = true
is_ready (stages.Letter letter) = true
is_ready stages.Ended = true

-- a D, whose B is still to come
abbrev pub is_half_db : Stage → Bool
is_half_db (stages.Letter letter) = letter == symbol_d
is_half_db _ = false

-- C, D, R, and the B behind a D
abbrev pub is_letter_behind : Bool → ℕ → Bool
is_letter_behind half c = is_tail_letter c || c == symbol_r || (c == symbol_b && half)

-- what strings are of
abbrev pub is_string_symbol : ℕ → Bool
is_string_symbol c = is_currency_or_sign c || is_suppressor c

both : {A : Type 0} (b : Bool) → b ≡ true → b ≡ false → A
both true e f = absurd cc
both false e f = absurd cc

nothing : {A : Type 0} (x : ℕ) → None ≡ Some x → A
nothing x e = absurd cc

same_number : (x y : ℕ) → Some x ≡ Some y → x ≡ y
same_number x y e = cc

-- ---- the string and the sign, behind any symbol

pub record Leads (c : ℕ) (stage : Stage) (shape next : Shape) : Type 0 where
  pub leads : (x : ℕ) → leads_to next.stage next.string ≡ Some x → (leads_to stage shape.string ≡ Some x) ⊎ (c ≡ x)
  pub signs : shape.sign ≡ true → next.sign ≡ true
  pub ready : is_ready stage ≡ true → (is_ready next.stage ≡ true) ⊎ ((is_sign c ≡ true) × (next.stage ≡ stages.Once c))
  pub string : (next.string ≡ shape.string) ⊎ ((next.string ≡ c) × (is_string_symbol c ≡ true))

abbrev AllLead : ℕ → Stage → Shape → Option Shape → Type 0
AllLead c stage shape o = IfSome o (λ next. Leads c stage shape next)

string_leads : (c : ℕ) (stage : Stage) (shape : Shape) → is_string_symbol c ≡ true → Leads c stage shape (in_string c shape)
string_leads c stage shape kind =
    either_way (λ next. Leads c stage shape next) shape.point _ _
    (λ _. record { leads = λ x e. inr (same_number c x e); signs = λ h. h; ready = λ h. inl refl; string = inr (refl, kind) })
    (λ _. record { leads = λ x e. inr (same_number c x e); signs = λ h. h; ready = λ h. inl refl; string = inr (refl, kind) })

nines_lead : (c : ℕ) (stage : Stage) (shape : Shape) → Leads c stage shape (in_nines shape)
nines_lead c stage shape =
    either_way (λ next. Leads c stage shape next) shape.point _ _
    (λ _. record { leads = λ x e. nothing x e; signs = λ h. h; ready = λ h. inl refl; string = inl refl })
    (λ _. record { leads = λ x e. nothing x e; signs = λ h. h; ready = λ h. inl refl; string = inl refl })

-- the stage alone changes
stage_leads : (c : ℕ) (stage to : Stage) (shape : Shape) → ((x : ℕ) → leads_to to shape.string ≡ Some x → (leads_to stage shape.string ≡ Some x) ⊎ (c ≡ x)) → (is_ready stage ≡ true → is_ready to ≡ true) → Leads c stage shape (record shape { stage = to })
stage_leads c stage to shape leads ready = record { leads = leads; signs = λ h. h; ready = λ h. inl (ready h); string = inl refl }

-- the first sign comes
signed_leads : (c : ℕ) (stage to : Stage) (shape : Shape) → ((x : ℕ) → leads_to to shape.string ≡ Some x → (leads_to stage shape.string ≡ Some x) ⊎ (c ≡ x)) → (is_ready stage ≡ true → (is_ready to ≡ true) ⊎ ((is_sign c ≡ true) × (to ≡ stages.Once c))) → AllLead c stage shape (signed to shape)
signed_leads c stage to shape leads ready =
    either_way (AllLead c stage shape) shape.sign _ _ (λ _. tt)
    (λ _. record { leads = leads; signs = λ h. refl; ready = ready; string = inl refl })

same_leads : (c : ℕ) (stage : Stage) (shape : Shape) → shape.stage ≡ stage → Leads c stage shape shape
same_leads c stage shape at = record {
  leads = λ x e. inl (sym (ap (λ s. leads_to s shape.string) at) ∙ e);
  signs = λ h. h;
  ready = λ h. inl (ap is_ready at ∙ h);
  string = inl refl;
}

again_leads : (c first : ℕ) (stage : Stage) (shape : Shape) → is_string_symbol c ≡ true → AllLead c stage shape (again first c shape)
again_leads c first stage shape kind = either_way (AllLead c stage shape) (first == c) _ _ (λ _. string_leads c stage shape kind) (λ _. tt)

once_leads : (c : ℕ) (stage : Stage) (shape : Shape) → is_sign c ≡ true → AllLead c stage shape (begun_signed c shape)
once_leads c stage shape is =
    either_way (AllLead c stage shape) shape.point _ _ (λ _. tt)
    (λ _. signed_leads c stage (stages.Once c) shape (λ x e. inr (same_number c x e)) (λ h. inr (is, refl)))

sign_kind : (c : ℕ) → is_sign c ≡ true → is_string_symbol c ≡ true
sign_kind c is = or_left (is_currency_or_sign c) (is_suppressor c) (or_left (is_sign c) (c == symbol_dollar) is)

lead_leads : (c lead : ℕ) (stage : Stage) (shape : Shape) → is_sign c ≡ true → AllLead c stage shape (sign_behind_lead lead c shape)
lead_leads c lead stage shape is =
    either_way (AllLead c stage shape) (lead == c) _ _ (λ _. string_leads c stage shape (sign_kind c is))
    (λ _. either_way (AllLead c stage shape) (lead == symbol_dollar) _ _ (λ _. once_leads c stage shape is) (λ _. tt))

sign_leads : (stage : Stage) (c : ℕ) (shape : Shape) → is_sign c ≡ true → AllLead c stage shape (sign_by stage c shape)
sign_leads stages.Start c shape is = signed_leads c stages.Start (stages.Lead c) shape (λ x e. inr (same_number c x e)) (λ h. absurd cc)
sign_leads (stages.Lead lead) c shape is = lead_leads c lead (stages.Lead lead) shape is
sign_leads stages.Body c shape is = once_leads c stages.Body shape is
sign_leads (stages.Led lead) c shape is = lead_leads c lead (stages.Led lead) shape is
sign_leads (stages.Once first) c shape is = again_leads c first (stages.Once first) shape (sign_kind c is)
sign_leads stages.InString c shape is =
    either_way (AllLead c stages.InString shape) (shape.string == c) _ _
    (λ _. string_leads c stages.InString shape (sign_kind c is))
    (λ _. signed_leads c stages.InString stages.Ended shape (λ x e. nothing x e) (λ h. inl refl))
sign_leads stages.Nines c shape is = signed_leads c stages.Nines stages.Ended shape (λ x e. nothing x e) (λ h. inl refl)
sign_leads (stages.Letter letter) c shape is = tt
sign_leads stages.Ended c shape is = tt

dollar_begins : (stage : Stage) (shape : Shape) → AllLead symbol_dollar stage shape (begun (stages.Once symbol_dollar) shape)
dollar_begins stage shape =
    either_way (AllLead symbol_dollar stage shape) shape.point _ _ (λ _. tt)
    (λ _. stage_leads symbol_dollar stage (stages.Once symbol_dollar) shape (λ x e. inr (same_number symbol_dollar x e)) (λ h. refl))

dollar_leads : (stage : Stage) (shape : Shape) → AllLead symbol_dollar stage shape (dollar_by stage shape)
dollar_leads stages.Start shape = stage_leads symbol_dollar stages.Start (stages.Lead symbol_dollar) shape (λ x e. inr (same_number symbol_dollar x e)) (λ h. refl)
dollar_leads (stages.Lead lead) shape =
    either_way (AllLead symbol_dollar (stages.Lead lead) shape) (lead == symbol_dollar) _ _
    (λ _. string_leads symbol_dollar (stages.Lead lead) shape refl)
    (λ _. stage_leads symbol_dollar (stages.Lead lead) (stages.Lead symbol_dollar) shape (λ x e. inr (same_number symbol_dollar x e)) (λ h. refl))
dollar_leads stages.Body shape = dollar_begins stages.Body shape
dollar_leads (stages.Led lead) shape =
    either_way (AllLead symbol_dollar (stages.Led lead) shape) (lead == symbol_dollar) _ _
    (λ _. string_leads symbol_dollar (stages.Led lead) shape refl)
    (λ _. dollar_begins (stages.Led lead) shape)
dollar_leads (stages.Once first) shape = again_leads symbol_dollar first (stages.Once first) shape refl
dollar_leads stages.InString shape = again_leads symbol_dollar shape.string stages.InString shape refl
dollar_leads stages.Nines shape = tt
dollar_leads (stages.Letter letter) shape = tt
dollar_leads stages.Ended shape = tt

suppressor_leads : (stage : Stage) (c : ℕ) (shape : Shape) → is_string_symbol c ≡ true → AllLead c stage shape (suppressor_by stage c shape)
suppressor_leads stages.Start c shape kind = string_leads c stages.Start shape kind
suppressor_leads (stages.Lead lead) c shape kind = string_leads c (stages.Lead lead) shape kind
suppressor_leads stages.Body c shape kind = string_leads c stages.Body shape kind
suppressor_leads (stages.Led lead) c shape kind = string_leads c (stages.Led lead) shape kind
suppressor_leads (stages.Once first) c shape kind = tt
suppressor_leads stages.InString c shape kind = again_leads c shape.string stages.InString shape kind
suppressor_leads stages.Nines c shape kind = tt
suppressor_leads (stages.Letter letter) c shape kind = tt
suppressor_leads stages.Ended c shape kind = tt

nine_leads : (stage : Stage) (c : ℕ) (shape : Shape) → AllLead c stage shape (nine_by stage shape)
nine_leads stages.Start c shape = nines_lead c stages.Start shape
nine_leads (stages.Lead lead) c shape = nines_lead c (stages.Lead lead) shape
nine_leads stages.Body c shape = nines_lead c stages.Body shape
nine_leads (stages.Led lead) c shape = nines_lead c (stages.Led lead) shape
nine_leads (stages.Once first) c shape = tt
nine_leads stages.InString c shape = either_way (AllLead c stages.InString shape) (shape.part == 0) _ _ (λ _. nines_lead c stages.InString shape) (λ _. tt)
nine_leads stages.Nines c shape = nines_lead c stages.Nines shape
nine_leads (stages.Letter letter) c shape = tt
nine_leads stages.Ended c shape = tt

body_leads : (stage : Stage) (c : ℕ) (shape : Shape) → shape.stage ≡ stage → AllLead c stage shape (body_by stage shape)
body_leads stages.Start c shape at = stage_leads c stages.Start stages.Body shape (λ x e. nothing x e) (λ h. absurd cc)
body_leads (stages.Lead lead) c shape at = stage_leads c (stages.Lead lead) (stages.Led lead) shape (λ x e. inl e) (λ h. h)
body_leads stages.Body c shape at = same_leads c stages.Body shape at
body_leads (stages.Led lead) c shape at = same_leads c (stages.Led lead) shape at
body_leads (stages.Once first) c shape at = same_leads c (stages.Once first) shape at
body_leads stages.InString c shape at = same_leads c stages.InString shape at
body_leads stages.Nines c shape at = same_leads c stages.Nines shape at
body_leads (stages.Letter letter) c shape at = tt
body_leads stages.Ended c shape at = tt

insertion_leads : (stage : Stage) (c : ℕ) (shape : Shape) → shape.stage ≡ stage → AllLead c stage shape (insertion_by stage c shape)
insertion_leads stages.Start c shape at = body_leads stages.Start c shape at
insertion_leads (stages.Lead lead) c shape at = body_leads (stages.Lead lead) c shape at
insertion_leads stages.Body c shape at = body_leads stages.Body c shape at
insertion_leads (stages.Led lead) c shape at = body_leads (stages.Led lead) c shape at
insertion_leads (stages.Once first) c shape at = body_leads (stages.Once first) c shape at
insertion_leads stages.InString c shape at = body_leads stages.InString c shape at
insertion_leads stages.Nines c shape at = body_leads stages.Nines c shape at
insertion_leads (stages.Letter letter) c shape at =
    either_way (AllLead c (stages.Letter letter) shape) (letter == symbol_d && c == symbol_b) _ _
    (λ _. stage_leads c (stages.Letter letter) stages.Ended shape (λ x e. nothing x e) (λ h. refl)) (λ _. tt)
insertion_leads stages.Ended c shape at = tt

-- the point changes none of this
pointed : (c : ℕ) (stage : Stage) (shape : Shape) (o : Option Shape) → AllLead c stage (record shape { point = true }) o → AllLead c stage shape o
pointed c stage shape None all = tt
pointed c stage shape (Some next) all = record { leads = all.leads; signs = all.signs; ready = all.ready; string = all.string }

point_leads : (stage : Stage) (c : ℕ) (shape : Shape) → shape.stage ≡ stage → AllLead c stage shape (point_by stage shape)
point_leads stage c shape at =
    either_way (AllLead c stage shape) shape.point _ _ (λ _. tt)
    (λ _. pointed c stage shape (body_by stage (record shape { point = true })) (body_leads stage c (record shape { point = true }) at))

letter_leads : (stage : Stage) (c : ℕ) (shape : Shape) → AllLead c stage shape (letter_by stage c shape)
letter_leads stages.Start c shape = tt
letter_leads (stages.Lead lead) c shape = tt
letter_leads stages.Body c shape = tt
letter_leads (stages.Led lead) c shape = tt
letter_leads (stages.Once first) c shape = tt
letter_leads stages.InString c shape = signed_leads c stages.InString (stages.Letter c) shape (λ x e. nothing x e) (λ h. inl refl)
letter_leads stages.Nines c shape = signed_leads c stages.Nines (stages.Letter c) shape (λ x e. nothing x e) (λ h. inl refl)
letter_leads (stages.Letter letter) c shape = tt
letter_leads stages.Ended c shape = tt

last_letter_leads : (stage : Stage) (c : ℕ) (shape : Shape) → AllLead c stage shape (last_letter_by stage shape)
last_letter_leads stages.Start c shape = tt
last_letter_leads (stages.Lead lead) c shape = tt
last_letter_leads stages.Body c shape = tt
last_letter_leads (stages.Led lead) c shape = tt
last_letter_leads (stages.Once first) c shape = tt
last_letter_leads stages.InString c shape = tt
last_letter_leads stages.Nines c shape = tt
last_letter_leads (stages.Letter letter) c shape =
    either_way (AllLead c (stages.Letter letter) shape) (letter == symbol_c) _ _
    (λ _. stage_leads c (stages.Letter letter) stages.Ended shape (λ x e. nothing x e) (λ h. refl)) (λ _. tt)
last_letter_leads stages.Ended c shape = tt

behind_leads : (c : ℕ) (shape : Shape) → AllLead c shape.stage shape (behind c shape)
unfolding behind
behind_leads c shape =
    let P : Option Shape → Type 0 = AllLead c shape.stage shape in
    either_way P (is_sign c) _ _ (λ is. sign_leads shape.stage c shape is)
    (λ _. either_way P (c == symbol_dollar) _ _
    (λ is. subst (λ d. AllLead d shape.stage shape (dollar_by shape.stage shape)) (sym (eqb-true c 36 is)) (dollar_leads shape.stage shape))
    (λ _. either_way P (is_suppressor c) _ _ (λ is. suppressor_leads shape.stage c shape (or_right (is_currency_or_sign c) (is_suppressor c) is))
    (λ _. either_way P (c == symbol_9) _ _ (λ _. nine_leads shape.stage c shape)
    (λ _. either_way P (is_insertion c) _ _ (λ _. insertion_leads shape.stage c shape refl)
    (λ _. either_way P (is_point c) _ _ (λ _. point_leads shape.stage c shape refl)
    (λ _. either_way P (is_tail_letter c) _ _ (λ _. letter_leads shape.stage c shape)
    (λ _. either_way P (c == symbol_r) _ _ (λ _. last_letter_leads shape.stage c shape) (λ _. tt))))))))

pub leads_of : (c : ℕ) (shape next : Shape) → behind c shape ≡ Some next → Leads c shape.stage shape next
leads_of c shape next e = some_of (λ n. Leads c shape.stage shape n) (behind c shape) next e (behind_leads c shape)

-- ---- behind a sign

pub record Signs (c : ℕ) (stage : Stage) (shape next : Shape) : Type 0 where
  pub string : is_string next.stage ≡ true → (leads_to stage shape.string ≡ Some c) × (next.string ≡ c)
  pub again : shape.sign ≡ true → is_string next.stage ≡ true
  pub first : is_string next.stage ≡ false → next.sign ≡ true
  pub half : is_half_db next.stage ≡ false

abbrev AllSigns : ℕ → Stage → Shape → Option Shape → Type 0
AllSigns c stage shape o = IfSome o (λ next. Signs c stage shape next)

string_signs : (c : ℕ) (stage : Stage) (shape : Shape) → leads_to stage shape.string ≡ Some c → Signs c stage shape (in_string c shape)
string_signs c stage shape e =
    either_way (λ next. Signs c stage shape next) shape.point _ _
    (λ _. record { string = λ h. (e, refl); again = λ h. refl; first = λ h. absurd cc; half = refl })
    (λ _. record { string = λ h. (e, refl); again = λ h. refl; first = λ h. absurd cc; half = refl })

signed_signs : (c : ℕ) (stage to : Stage) (shape : Shape) → is_string to ≡ false → is_half_db to ≡ false → AllSigns c stage shape (signed to shape)
signed_signs c stage to shape other whole =
    either_way (AllSigns c stage shape) shape.sign _ _ (λ _. tt)
    (λ before. record { string = λ h. both (is_string to) h other; again = λ h. both shape.sign h before; first = λ h. refl; half = whole })

again_signs : (c first : ℕ) (stage : Stage) (shape : Shape) → leads_to stage shape.string ≡ Some first → AllSigns c stage shape (again first c shape)
again_signs c first stage shape e =
    either_way (AllSigns c stage shape) (first == c) _ _
    (λ same. string_signs c stage shape (e ∙ ap (λ n. Some n) (eqb-true first c same))) (λ _. tt)

once_signs : (c : ℕ) (stage : Stage) (shape : Shape) → AllSigns c stage shape (begun_signed c shape)
once_signs c stage shape = either_way (AllSigns c stage shape) shape.point _ _ (λ _. tt) (λ _. signed_signs c stage (stages.Once c) shape refl refl)

lead_signs : (c lead : ℕ) (stage : Stage) (shape : Shape) → leads_to stage shape.string ≡ Some lead → AllSigns c stage shape (sign_behind_lead lead c shape)
lead_signs c lead stage shape e =
    either_way (AllSigns c stage shape) (lead == c) _ _
    (λ same. string_signs c stage shape (e ∙ ap (λ n. Some n) (eqb-true lead c same)))
    (λ _. either_way (AllSigns c stage shape) (lead == symbol_dollar) _ _ (λ _. once_signs c stage shape) (λ _. tt))

all_signs : (stage : Stage) (c : ℕ) (shape : Shape) → AllSigns c stage shape (sign_by stage c shape)
all_signs stages.Start c shape = signed_signs c stages.Start (stages.Lead c) shape refl refl
all_signs (stages.Lead lead) c shape = lead_signs c lead (stages.Lead lead) shape refl
all_signs stages.Body c shape = once_signs c stages.Body shape
all_signs (stages.Led lead) c shape = lead_signs c lead (stages.Led lead) shape refl
all_signs (stages.Once first) c shape = again_signs c first (stages.Once first) shape refl
all_signs stages.InString c shape =
    either_way (AllSigns c stages.InString shape) (shape.string == c) _ _
    (λ same. string_signs c stages.InString shape (ap (λ n. Some n) (eqb-true shape.string c same)))
    (λ _. signed_signs c stages.InString stages.Ended shape refl refl)
all_signs stages.Nines c shape = signed_signs c stages.Nines stages.Ended shape refl refl
all_signs (stages.Letter letter) c shape = tt
all_signs stages.Ended c shape = tt

behind_sign : (c : ℕ) (shape : Shape) → is_sign c ≡ true → AllSigns c shape.stage shape (behind c shape)
unfolding behind
behind_sign c shape is =
    either_way (AllSigns c shape.stage shape) (is_sign c) _ _ (λ _. all_signs shape.stage c shape) (λ other. both (is_sign c) is other)

pub signs_of : (c : ℕ) (shape next : Shape) → is_sign c ≡ true → behind c shape ≡ Some next → Signs c shape.stage shape next
signs_of c shape next is e = some_of (λ n. Signs c shape.stage shape n) (behind c shape) next e (behind_sign c shape is)

-- ---- behind a `$`

pub record Dollars (stage : Stage) (shape next : Shape) : Type 0 where
  pub string : is_string next.stage ≡ true → (leads_to stage shape.string ≡ Some 36) × (next.string ≡ 36)
  pub again : is_ready stage ≡ true → is_string next.stage ≡ true
  pub ready : is_ready next.stage ≡ true

abbrev AllDollars : Stage → Shape → Option Shape → Type 0
AllDollars stage shape o = IfSome o (λ next. Dollars stage shape next)

string_dollars : (stage : Stage) (shape : Shape) → leads_to stage shape.string ≡ Some 36 → Dollars stage shape (in_string symbol_dollar shape)
string_dollars stage shape e =
    either_way (λ next. Dollars stage shape next) shape.point _ _
    (λ _. record { string = λ h. (e, refl); again = λ h. refl; ready = refl })
    (λ _. record { string = λ h. (e, refl); again = λ h. refl; ready = refl })

stage_dollars : (stage to : Stage) (shape : Shape) → is_string to ≡ false → is_ready to ≡ true → is_ready stage ≡ false → Dollars stage shape (record shape { stage = to })
stage_dollars stage to shape other ready before = record {
  string = λ h. both (is_string to) h other;
  again = λ h. both (is_ready stage) h before;
  ready = ready;
}

begun_dollars : (stage : Stage) (shape : Shape) → is_ready stage ≡ false → AllDollars stage shape (begun (stages.Once symbol_dollar) shape)
begun_dollars stage shape before = either_way (AllDollars stage shape) shape.point _ _ (λ _. tt) (λ _. stage_dollars stage (stages.Once symbol_dollar) shape refl refl before)

again_dollars : (first : ℕ) (stage : Stage) (shape : Shape) → leads_to stage shape.string ≡ Some first → AllDollars stage shape (again first symbol_dollar shape)
again_dollars first stage shape e =
    either_way (AllDollars stage shape) (first == symbol_dollar) _ _
    (λ same. string_dollars stage shape (e ∙ ap (λ n. Some n) (eqb-true first 36 same))) (λ _. tt)

all_dollars : (stage : Stage) (shape : Shape) → AllDollars stage shape (dollar_by stage shape)
all_dollars stages.Start shape = stage_dollars stages.Start (stages.Lead symbol_dollar) shape refl refl refl
all_dollars (stages.Lead lead) shape =
    either_way (AllDollars (stages.Lead lead) shape) (lead == symbol_dollar) _ _
    (λ same. string_dollars (stages.Lead lead) shape (ap (λ n. Some n) (eqb-true lead 36 same)))
    (λ other. stage_dollars (stages.Lead lead) (stages.Lead symbol_dollar) shape refl refl other)
all_dollars stages.Body shape = begun_dollars stages.Body shape refl
all_dollars (stages.Led lead) shape =
    either_way (AllDollars (stages.Led lead) shape) (lead == symbol_dollar) _ _
    (λ same. string_dollars (stages.Led lead) shape (ap (λ n. Some n) (eqb-true lead 36 same)))
    (λ other. begun_dollars (stages.Led lead) shape other)
all_dollars (stages.Once first) shape = again_dollars first (stages.Once first) shape refl
all_dollars stages.InString shape = again_dollars shape.string stages.InString shape refl
all_dollars stages.Nines shape = tt
all_dollars (stages.Letter letter) shape = tt
all_dollars stages.Ended shape = tt

behind_dollar : (shape : Shape) → AllDollars shape.stage shape (behind 36 shape)
unfolding behind
behind_dollar shape = all_dollars shape.stage shape

pub dollars_of : (shape next : Shape) → behind 36 shape ≡ Some next → Dollars shape.stage shape next
dollars_of shape next e = some_of (λ n. Dollars shape.stage shape n) (behind 36 shape) next e (behind_dollar shape)

-- ---- behind Z and `*`

abbrev EndsInString : ℕ → Option Shape → Type 0
EndsInString c o = IfSome o (λ next. (is_string next.stage ≡ true) × (next.string ≡ c))

string_ends : (c : ℕ) (shape : Shape) → EndsInString c (Some (in_string c shape))
string_ends c shape = either_way (λ (next : Shape). (is_string next.stage ≡ true) × (next.string ≡ c)) shape.point _ _ (λ _. (refl, refl)) (λ _. (refl, refl))

suppressor_ends : (stage : Stage) (c : ℕ) (shape : Shape) → EndsInString c (suppressor_by stage c shape)
suppressor_ends stages.Start c shape = string_ends c shape
suppressor_ends (stages.Lead lead) c shape = string_ends c shape
suppressor_ends stages.Body c shape = string_ends c shape
suppressor_ends (stages.Led lead) c shape = string_ends c shape
suppressor_ends (stages.Once first) c shape = tt
suppressor_ends stages.InString c shape = either_way (EndsInString c) (shape.string == c) _ _ (λ _. string_ends c shape) (λ _. tt)
suppressor_ends stages.Nines c shape = tt
suppressor_ends (stages.Letter letter) c shape = tt
suppressor_ends stages.Ended c shape = tt

behind_suppressor : (c : ℕ) (shape : Shape) → is_suppressor c ≡ true → EndsInString c (behind c shape)
unfolding behind
behind_suppressor c shape is = elim (or_cases (c == 90) (c == 42) is) [
  | inl e ↦ subst (λ s. EndsInString s (behind s shape)) (sym (eqb-true c 90 e)) (suppressor_ends shape.stage 90 shape)
  | inr e ↦ subst (λ s. EndsInString s (behind s shape)) (sym (eqb-true c 42 e)) (suppressor_ends shape.stage 42 shape)
]

pub suppressors_end : (c : ℕ) (shape next : Shape) → is_suppressor c ≡ true → behind c shape ≡ Some next → (is_string next.stage ≡ true) × (next.string ≡ c)
suppressors_end c shape next is e = some_of (λ (n : Shape). (is_string n.stage ≡ true) × (n.string ≡ c)) (behind c shape) next e (behind_suppressor c shape is)

-- ---- the tail

-- there is none yet
abbrev Plain : Shape → Type 0
Plain next = (is_tail next.stage ≡ false) × (is_half_db next.stage ≡ false)

abbrev AllPlain : Option Shape → Type 0
AllPlain o = IfSome o Plain

string_plain : (c : ℕ) (shape : Shape) → Plain (in_string c shape)
string_plain c shape = either_way Plain shape.point _ _ (λ _. (refl, refl)) (λ _. (refl, refl))

nines_plain : (shape : Shape) → Plain (in_nines shape)
nines_plain shape = either_way Plain shape.point _ _ (λ _. (refl, refl)) (λ _. (refl, refl))

again_plain : (first c : ℕ) (shape : Shape) → AllPlain (again first c shape)
again_plain first c shape = either_way AllPlain (first == c) _ _ (λ _. string_plain c shape) (λ _. tt)

begun_plain : (first : ℕ) (shape : Shape) → AllPlain (begun (stages.Once first) shape)
begun_plain first shape = either_way AllPlain shape.point _ _ (λ _. tt) (λ _. (refl, refl))

dollar_plain : (stage : Stage) (shape : Shape) → AllPlain (dollar_by stage shape)
dollar_plain stages.Start shape = (refl, refl)
dollar_plain (stages.Lead lead) shape = either_way AllPlain (lead == symbol_dollar) _ _ (λ _. string_plain symbol_dollar shape) (λ _. (refl, refl))
dollar_plain stages.Body shape = begun_plain symbol_dollar shape
dollar_plain (stages.Led lead) shape = either_way AllPlain (lead == symbol_dollar) _ _ (λ _. string_plain symbol_dollar shape) (λ _. begun_plain symbol_dollar shape)
dollar_plain (stages.Once first) shape = again_plain first symbol_dollar shape
dollar_plain stages.InString shape = again_plain shape.string symbol_dollar shape
dollar_plain stages.Nines shape = tt
dollar_plain (stages.Letter letter) shape = tt
dollar_plain stages.Ended shape = tt

suppressor_plain : (stage : Stage) (c : ℕ) (shape : Shape) → AllPlain (suppressor_by stage c shape)
suppressor_plain stages.Start c shape = string_plain c shape
suppressor_plain (stages.Lead lead) c shape = string_plain c shape
suppressor_plain stages.Body c shape = string_plain c shape
suppressor_plain (stages.Led lead) c shape = string_plain c shape
suppressor_plain (stages.Once first) c shape = tt
suppressor_plain stages.InString c shape = again_plain shape.string c shape
suppressor_plain stages.Nines c shape = tt
suppressor_plain (stages.Letter letter) c shape = tt
suppressor_plain stages.Ended c shape = tt

nine_plain : (stage : Stage) (shape : Shape) → AllPlain (nine_by stage shape)
nine_plain stages.Start shape = nines_plain shape
nine_plain (stages.Lead lead) shape = nines_plain shape
nine_plain stages.Body shape = nines_plain shape
nine_plain (stages.Led lead) shape = nines_plain shape
nine_plain (stages.Once first) shape = tt
nine_plain stages.InString shape = either_way AllPlain (shape.part == 0) _ _ (λ _. nines_plain shape) (λ _. tt)
nine_plain stages.Nines shape = nines_plain shape
nine_plain (stages.Letter letter) shape = tt
nine_plain stages.Ended shape = tt

body_plain : (stage : Stage) (shape : Shape) → shape.stage ≡ stage → AllPlain (body_by stage shape)
body_plain stages.Start shape at = (refl, refl)
body_plain (stages.Lead lead) shape at = (refl, refl)
body_plain stages.Body shape at = (ap is_tail at, ap is_half_db at)
body_plain (stages.Led lead) shape at = (ap is_tail at, ap is_half_db at)
body_plain (stages.Once first) shape at = (ap is_tail at, ap is_half_db at)
body_plain stages.InString shape at = (ap is_tail at, ap is_half_db at)
body_plain stages.Nines shape at = (ap is_tail at, ap is_half_db at)
body_plain (stages.Letter letter) shape at = tt
body_plain stages.Ended shape at = tt

point_plain : (stage : Stage) (shape : Shape) → shape.stage ≡ stage → AllPlain (point_by stage shape)
point_plain stage shape at = either_way AllPlain shape.point _ _ (λ _. tt) (λ _. body_plain stage (record shape { point = true }) at)

-- the tail goes on with letters alone, and a D has its B to come
abbrev Tails : ℕ → Stage → Shape → Type 0
Tails c stage next = (is_tail next.stage ≡ is_letter_behind (is_half_db stage) c) × (is_half_db next.stage ≡ (c == symbol_d))

abbrev AllTails : ℕ → Stage → Option Shape → Type 0
AllTails c stage o = IfSome o (λ next. Tails c stage next)

-- what isn't the B of DB stays before the tail
insertion_tails : (stage : Stage) (c : ℕ) (shape : Shape) → shape.stage ≡ stage → (c == symbol_b) ≡ false → AllPlain (insertion_by stage c shape)
insertion_tails stages.Start c shape at other = body_plain stages.Start shape at
insertion_tails (stages.Lead lead) c shape at other = body_plain (stages.Lead lead) shape at
insertion_tails stages.Body c shape at other = body_plain stages.Body shape at
insertion_tails (stages.Led lead) c shape at other = body_plain (stages.Led lead) shape at
insertion_tails (stages.Once first) c shape at other = body_plain (stages.Once first) shape at
insertion_tails stages.InString c shape at other = body_plain stages.InString shape at
insertion_tails stages.Nines c shape at other = body_plain stages.Nines shape at
insertion_tails (stages.Letter letter) c shape at other =
    either_way AllPlain (letter == symbol_d && c == symbol_b) _ _
    (λ is. both (c == symbol_b) (and_parts (letter == symbol_d) (c == symbol_b) is).1 other) (λ _. tt)
insertion_tails stages.Ended c shape at other = tt

b_tails : (stage : Stage) (shape : Shape) → shape.stage ≡ stage → AllTails 66 stage (insertion_by stage 66 shape)
b_tails stages.Start shape at = body_plain stages.Start shape at
b_tails (stages.Lead lead) shape at = body_plain (stages.Lead lead) shape at
b_tails stages.Body shape at = body_plain stages.Body shape at
b_tails (stages.Led lead) shape at = body_plain (stages.Led lead) shape at
b_tails (stages.Once first) shape at = body_plain (stages.Once first) shape at
b_tails stages.InString shape at = body_plain stages.InString shape at
b_tails stages.Nines shape at = body_plain stages.Nines shape at
b_tails (stages.Letter letter) shape at =
    either_way (AllTails 66 (stages.Letter letter)) (letter == symbol_d && 66 == symbol_b) _ _
    (λ is. (sym (and_parts (letter == symbol_d) true is).0, refl)) (λ _. tt)
b_tails stages.Ended shape at = tt

letter_tails : (stage : Stage) (c : ℕ) (shape : Shape) → is_tail_letter c ≡ true → AllTails c stage (letter_by stage c shape)
letter_tails stages.Start c shape is = tt
letter_tails (stages.Lead lead) c shape is = tt
letter_tails stages.Body c shape is = tt
letter_tails (stages.Led lead) c shape is = tt
letter_tails (stages.Once first) c shape is = tt
letter_tails stages.InString c shape is =
    either_way (AllTails c stages.InString) shape.sign _ _ (λ _. tt)
    (λ _. (sym (or_left (is_tail_letter c || c == symbol_r) (c == symbol_b && false) (or_left (is_tail_letter c) (c == symbol_r) is)), refl))
letter_tails stages.Nines c shape is =
    either_way (AllTails c stages.Nines) shape.sign _ _ (λ _. tt)
    (λ _. (sym (or_left (is_tail_letter c || c == symbol_r) (c == symbol_b && false) (or_left (is_tail_letter c) (c == symbol_r) is)), refl))
letter_tails (stages.Letter letter) c shape is = tt
letter_tails stages.Ended c shape is = tt

last_letter_tails : (stage : Stage) (shape : Shape) → AllTails 82 stage (last_letter_by stage shape)
last_letter_tails stages.Start shape = tt
last_letter_tails (stages.Lead lead) shape = tt
last_letter_tails stages.Body shape = tt
last_letter_tails (stages.Led lead) shape = tt
last_letter_tails (stages.Once first) shape = tt
last_letter_tails stages.InString shape = tt
last_letter_tails stages.Nines shape = tt
last_letter_tails (stages.Letter letter) shape = either_way (AllTails 82 (stages.Letter letter)) (letter == symbol_c) _ _ (λ _. (refl, refl)) (λ _. tt)
last_letter_tails stages.Ended shape = tt

suppressor_tails : (c : ℕ) (stage : Stage) (shape : Shape) → is_suppressor c ≡ true → AllTails c stage (suppressor_by stage c shape)
suppressor_tails c stage shape is = elim (or_cases (c == 90) (c == 42) is) [
  | inl e ↦ subst (λ s. AllTails s stage (suppressor_by stage s shape)) (sym (eqb-true c 90 e)) (suppressor_plain stage 90 shape)
  | inr e ↦ subst (λ s. AllTails s stage (suppressor_by stage s shape)) (sym (eqb-true c 42 e)) (suppressor_plain stage 42 shape)
]

insertions_tails : (c : ℕ) (shape : Shape) → is_insertion c ≡ true → AllTails c shape.stage (insertion_by shape.stage c shape)
insertions_tails c shape is =
    let P : ℕ → Type 0 = λ s. AllTails s shape.stage (insertion_by shape.stage s shape) in
    elim (or_cases (c == 66 || c == 48 || c == 47) (c == 44) is) [
      | inl three ↦ elim (or_cases (c == 66 || c == 48) (c == 47) three) [
        | inl two ↦ elim (or_cases (c == 66) (c == 48) two) [
          | inl e ↦ subst P (sym (eqb-true c 66 e)) (b_tails shape.stage shape refl)
          | inr e ↦ subst P (sym (eqb-true c 48 e)) (insertion_tails shape.stage 48 shape refl refl)
        ]
        | inr e ↦ subst P (sym (eqb-true c 47 e)) (insertion_tails shape.stage 47 shape refl refl)
      ]
      | inr e ↦ subst P (sym (eqb-true c 44 e)) (insertion_tails shape.stage 44 shape refl refl)
    ]

points_tails : (c : ℕ) (shape : Shape) → is_point c ≡ true → AllTails c shape.stage (point_by shape.stage shape)
points_tails c shape is = elim (or_cases (c == 46) (c == 86) is) [
  | inl e ↦ subst (λ s. AllTails s shape.stage (point_by shape.stage shape)) (sym (eqb-true c 46 e)) (point_plain shape.stage shape refl)
  | inr e ↦ subst (λ s. AllTails s shape.stage (point_by shape.stage shape)) (sym (eqb-true c 86 e)) (point_plain shape.stage shape refl)
]

behind_tails : (c : ℕ) (shape : Shape) → is_sign c ≡ false → AllTails c shape.stage (behind c shape)
unfolding behind
behind_tails c shape unsigned =
    let P : Option Shape → Type 0 = AllTails c shape.stage in
    either_way P (is_sign c) _ _ (λ is. both (is_sign c) is unsigned)
    (λ _. either_way P (c == symbol_dollar) _ _
    (λ is. subst (λ d. AllTails d shape.stage (dollar_by shape.stage shape)) (sym (eqb-true c 36 is)) (dollar_plain shape.stage shape))
    (λ _. either_way P (is_suppressor c) _ _ (λ is. suppressor_tails c shape.stage shape is)
    (λ _. either_way P (c == symbol_9) _ _
    (λ is. subst (λ d. AllTails d shape.stage (nine_by shape.stage shape)) (sym (eqb-true c 57 is)) (nine_plain shape.stage shape))
    (λ _. either_way P (is_insertion c) _ _ (λ is. insertions_tails c shape is)
    (λ _. either_way P (is_point c) _ _ (λ is. points_tails c shape is)
    (λ _. either_way P (is_tail_letter c) _ _ (λ is. letter_tails shape.stage c shape is)
    (λ _. either_way P (c == symbol_r) _ _
    (λ is. subst (λ d. AllTails d shape.stage (last_letter_by shape.stage shape)) (sym (eqb-true c 82 is)) (last_letter_tails shape.stage shape))
    (λ _. tt))))))))

pub tails_of : (c : ℕ) (shape next : Shape) → is_sign c ≡ false → behind c shape ≡ Some next → Tails c shape.stage next
tails_of c shape next unsigned e = some_of (λ n. Tails c shape.stage n) (behind c shape) next e (behind_tails c shape unsigned)

sign_no_d : (c : ℕ) → is_sign c ≡ true → false ≡ (c == symbol_d)
sign_no_d c is = elim (or_cases (c == 43) (c == 45) is) [
  | inl e ↦ ap (λ s. s == symbol_d) (sym (eqb-true c 43 e))
  | inr e ↦ ap (λ s. s == symbol_d) (sym (eqb-true c 45 e))
]

pub half_of : (c : ℕ) (shape next : Shape) → behind c shape ≡ Some next → is_half_db next.stage ≡ (c == symbol_d)
half_of c shape next e = elim (cases_Bool (is_sign c)) [
  | inl is ↦ (signs_of c shape next is e).half ∙ sign_no_d c is
  | inr unsigned ↦ (tails_of c shape next unsigned e).1
]

-- no symbol is 0
pub no_zero : (shape next : Shape) → behind 0 shape ≡ Some next → ⊥
unfolding behind
no_zero shape next e = cc
