-- What one symbol more does to the sign, the string and the stage of a mask.
use Rattle.std.proofs.Common.{◌≡◌, ℕ, Bool, true, false, ◌==◌, ◌&&◌, ◌||◌, Option, Some, None, IfSome, ◌⊎◌, inl, inr, refl, sym, ap, ◌∙◌, subst}
use Rattle.std.proofs.lemmas.Bool.{eqb-true, or_left, or_right}
use Rattle.edit_fields.specs.declared.shape.Stage.{Stage}
use Rattle.edit_fields.specs.declared.shape.Stage.TheVariants as stages
use Rattle.edit_fields.specs.declared.shape.Shape.{Shape}
use Rattle.edit_fields.specs.Symbol.{is_insertion, is_point, is_sign, is_suppressor, is_tail_letter, symbol_9, symbol_b, symbol_c, symbol_d, symbol_dollar, symbol_r}
use Rattle.edit_fields.specs.Shape.{again, begun, begun_signed, behind, body_by, digits, dollar_by, in_nines, in_string, insertion_by, last_letter_by, letter_by, nine_by, point_by, sign_behind_lead, sign_by, signed, suppressor_by}
use Rattle.edit_fields.specs.Edited.{is_tail}
use Rattle.edit_fields.proofs.BranchLemmas.{either_way}

-- ---- words

abbrev pub is_start : Stage → Bool
is_start stages.Start = true
is_start _ = false

-- before the first digit
abbrev pub is_early : Stage → Bool
is_early stages.Start = true
is_early (stages.Lead lead) = true
is_early stages.Body = true
is_early (stages.Led lead) = true
is_early (stages.Once first) = true
is_early _ = false

-- the string's symbol, where that is settled
abbrev pub will : Stage → ℕ → Option ℕ
will (stages.Once first) string = Some first
will stages.InString string = Some string
will stages.Nines string = Some string
will (stages.Letter letter) string = Some string
will stages.Ended string = Some string
will _ string = None

-- the first sign: in the tail, in the lead, or the first of two that float
pub data Turn (c : ℕ) (stage : Stage) (next : Shape) : Type 0 where
  in_tail : is_tail next.stage ≡ true → (is_sign c || is_tail_letter c) ≡ true → Turn c stage next
  in_lead : is_sign c ≡ true → is_start stage ≡ true → next.stage ≡ stages.Lead c → Turn c stage next
  floats : is_sign c ≡ true → next.stage ≡ stages.Once c → Turn c stage next

pub record Step (c : ℕ) (stage : Stage) (shape next : Shape) : Type 0 where
  pub starts : is_start next.stage ≡ false
  pub early : is_early next.stage ≡ true → (is_early stage ≡ true) × (digits next ≡ digits shape)
  pub promised : (x : ℕ) → will stage shape.string ≡ Some x → will next.stage next.string ≡ Some x
  pub tails : is_tail stage ≡ true → (is_tail next.stage ≡ true) × (digits next ≡ digits shape)
  pub signs : next.sign ≡ true → (shape.sign ≡ true) ⊎ Turn c stage next

abbrev Steps : ℕ → Stage → Shape → Option Shape → Type 0
Steps c stage shape o = IfSome o (λ next. Step c stage shape next)

-- ---- kinds of steps

both : {A : Type 0} (b : Bool) → b ≡ true → b ≡ false → A
both true e f = absurd cc
both false e f = absurd cc

nothing : {A : Type 0} (x : ℕ) → None ≡ Some x → A
nothing x e = absurd cc

-- a number of the string's symbol in both
same_number : (x y : ℕ) → Some x ≡ Some y → x ≡ y
same_number x y e = cc

-- the symbol goes on with the string
string_step : (c : ℕ) (stage : Stage) (shape : Shape) → is_tail stage ≡ false → ((x : ℕ) → will stage shape.string ≡ Some x → c ≡ x) → Step c stage shape (in_string c shape)
string_step c stage shape body keeps =
    either_way (λ next. Step c stage shape next) shape.point _ _
    (λ _. record { starts = refl; early = λ h. absurd cc; promised = λ x e. ap (λ n. Some n) (keeps x e); tails = λ h. both (is_tail stage) h body; signs = λ h. inl h })
    (λ _. record { starts = refl; early = λ h. absurd cc; promised = λ x e. ap (λ n. Some n) (keeps x e); tails = λ h. both (is_tail stage) h body; signs = λ h. inl h })

nines_step : (c : ℕ) (stage : Stage) (shape : Shape) → is_tail stage ≡ false → ((x : ℕ) → will stage shape.string ≡ Some x → shape.string ≡ x) → Step c stage shape (in_nines shape)
nines_step c stage shape body keeps =
    either_way (λ next. Step c stage shape next) shape.point _ _
    (λ _. record { starts = refl; early = λ h. absurd cc; promised = λ x e. ap (λ n. Some n) (keeps x e); tails = λ h. both (is_tail stage) h body; signs = λ h. inl h })
    (λ _. record { starts = refl; early = λ h. absurd cc; promised = λ x e. ap (λ n. Some n) (keeps x e); tails = λ h. both (is_tail stage) h body; signs = λ h. inl h })

-- the stage alone changes
stage_step : (c : ℕ) (stage to : Stage) (shape : Shape) → is_start to ≡ false → (is_early to ≡ true → is_early stage ≡ true) → ((x : ℕ) → will stage shape.string ≡ Some x → will to shape.string ≡ Some x) → (is_tail stage ≡ true → is_tail to ≡ true) → Step c stage shape (record shape { stage = to })
stage_step c stage to shape starts early keeps tails = record { starts = starts; early = λ h. (early h, refl); promised = keeps; tails = λ h. (tails h, refl); signs = λ h. inl h }

-- the first sign comes
signed_step : (c : ℕ) (stage to : Stage) (shape : Shape) → is_start to ≡ false → (is_early to ≡ true → is_early stage ≡ true) → ((x : ℕ) → will stage shape.string ≡ Some x → will to shape.string ≡ Some x) → is_tail stage ≡ false → Turn c stage (record shape { stage = to; sign = true }) → Steps c stage shape (signed to shape)
signed_step c stage to shape starts early keeps body turn =
    either_way (Steps c stage shape) shape.sign _ _ (λ _. tt)
    (λ _. record { starts = starts; early = λ h. (early h, refl); promised = keeps; tails = λ h. both (is_tail stage) h body; signs = λ h. inr turn })

-- nothing changes
same_step : (c : ℕ) (stage : Stage) (shape : Shape) → shape.stage ≡ stage → is_start stage ≡ false → Step c stage shape shape
same_step c stage shape at starts = record {
  starts = ap is_start at ∙ starts;
  early = λ h. (sym (ap is_early at) ∙ h, refl);
  promised = λ x e. ap (λ s. will s shape.string) at ∙ e;
  tails = λ h. (ap is_tail at ∙ h, refl);
  signs = λ h. inl h;
}

once_step : (c : ℕ) (stage : Stage) (shape : Shape) → is_sign c ≡ true → is_early stage ≡ true → ((x : ℕ) → will stage shape.string ≡ Some x → ⊥) → is_tail stage ≡ false → Steps c stage shape (begun_signed c shape)
once_step c stage shape is early unset body =
    either_way (Steps c stage shape) shape.point _ _ (λ _. tt)
    (λ _. signed_step c stage (stages.Once c) shape refl (λ h. early) (λ x e. absurd (unset x e)) body (floats is refl))

again_step : (c first : ℕ) (stage : Stage) (shape : Shape) → is_tail stage ≡ false → ((x : ℕ) → will stage shape.string ≡ Some x → first ≡ x) → Steps c stage shape (again first c shape)
again_step c first stage shape body keeps =
    either_way (Steps c stage shape) (first == c) _ _
    (λ same. string_step c stage shape body (λ x e. sym (eqb-true first c same) ∙ keeps x e)) (λ _. tt)

-- ---- the kinds of symbols

lead_steps : (c lead : ℕ) (stage : Stage) (shape : Shape) → is_sign c ≡ true → is_early stage ≡ true → ((x : ℕ) → will stage shape.string ≡ Some x → ⊥) → is_tail stage ≡ false → Steps c stage shape (sign_behind_lead lead c shape)
lead_steps c lead stage shape is early unset body =
    either_way (Steps c stage shape) (lead == c) _ _ (λ _. string_step c stage shape body (λ x e. absurd (unset x e)))
    (λ _. either_way (Steps c stage shape) (lead == symbol_dollar) _ _ (λ _. once_step c stage shape is early unset body) (λ _. tt))

sign_steps : (stage : Stage) (c : ℕ) (shape : Shape) → is_sign c ≡ true → Steps c stage shape (sign_by stage c shape)
sign_steps stages.Start c shape is = signed_step c stages.Start (stages.Lead c) shape refl (λ h. refl) (λ x e. nothing x e) refl (in_lead is refl refl)
sign_steps (stages.Lead lead) c shape is = lead_steps c lead (stages.Lead lead) shape is refl (λ x e. nothing x e) refl
sign_steps stages.Body c shape is = once_step c stages.Body shape is refl (λ x e. nothing x e) refl
sign_steps (stages.Led lead) c shape is = lead_steps c lead (stages.Led lead) shape is refl (λ x e. nothing x e) refl
sign_steps (stages.Once first) c shape is = again_step c first (stages.Once first) shape refl (λ x e. same_number first x e)
sign_steps stages.InString c shape is =
    either_way (Steps c stages.InString shape) (shape.string == c) _ _
    (λ same. string_step c stages.InString shape refl (λ x e. sym (eqb-true shape.string c same) ∙ same_number shape.string x e))
    (λ _. signed_step c stages.InString stages.Ended shape refl (λ h. absurd cc) (λ x e. e) refl (in_tail refl (or_left (is_sign c) (is_tail_letter c) is)))
sign_steps stages.Nines c shape is = signed_step c stages.Nines stages.Ended shape refl (λ h. absurd cc) (λ x e. e) refl (in_tail refl (or_left (is_sign c) (is_tail_letter c) is))
sign_steps (stages.Letter letter) c shape is = tt
sign_steps stages.Ended c shape is = tt

begun_step : (c : ℕ) (stage : Stage) (shape : Shape) → is_early stage ≡ true → ((x : ℕ) → will stage shape.string ≡ Some x → ⊥) → is_tail stage ≡ false → Steps c stage shape (begun (stages.Once symbol_dollar) shape)
begun_step c stage shape early unset body =
    either_way (Steps c stage shape) shape.point _ _ (λ _. tt)
    (λ _. stage_step c stage (stages.Once symbol_dollar) shape refl (λ h. early) (λ x e. absurd (unset x e)) (λ h. both (is_tail stage) h body))

dollar_steps : (stage : Stage) (shape : Shape) → Steps symbol_dollar stage shape (dollar_by stage shape)
dollar_steps stages.Start shape = stage_step symbol_dollar stages.Start (stages.Lead symbol_dollar) shape refl (λ h. refl) (λ x e. nothing x e) (λ h. absurd cc)
dollar_steps (stages.Lead lead) shape =
    either_way (Steps symbol_dollar (stages.Lead lead) shape) (lead == symbol_dollar) _ _
    (λ _. string_step symbol_dollar (stages.Lead lead) shape refl (λ x e. nothing x e))
    (λ _. stage_step symbol_dollar (stages.Lead lead) (stages.Lead symbol_dollar) shape refl (λ h. refl) (λ x e. nothing x e) (λ h. absurd cc))
dollar_steps stages.Body shape = begun_step symbol_dollar stages.Body shape refl (λ x e. nothing x e) refl
dollar_steps (stages.Led lead) shape =
    either_way (Steps symbol_dollar (stages.Led lead) shape) (lead == symbol_dollar) _ _
    (λ _. string_step symbol_dollar (stages.Led lead) shape refl (λ x e. nothing x e))
    (λ _. begun_step symbol_dollar (stages.Led lead) shape refl (λ x e. nothing x e) refl)
dollar_steps (stages.Once first) shape = again_step symbol_dollar first (stages.Once first) shape refl (λ x e. same_number first x e)
dollar_steps stages.InString shape = again_step symbol_dollar shape.string stages.InString shape refl (λ x e. same_number shape.string x e)
dollar_steps stages.Nines shape = tt
dollar_steps (stages.Letter letter) shape = tt
dollar_steps stages.Ended shape = tt

suppressor_steps : (stage : Stage) (c : ℕ) (shape : Shape) → Steps c stage shape (suppressor_by stage c shape)
suppressor_steps stages.Start c shape = string_step c stages.Start shape refl (λ x e. nothing x e)
suppressor_steps (stages.Lead lead) c shape = string_step c (stages.Lead lead) shape refl (λ x e. nothing x e)
suppressor_steps stages.Body c shape = string_step c stages.Body shape refl (λ x e. nothing x e)
suppressor_steps (stages.Led lead) c shape = string_step c (stages.Led lead) shape refl (λ x e. nothing x e)
suppressor_steps (stages.Once first) c shape = tt
suppressor_steps stages.InString c shape = again_step c shape.string stages.InString shape refl (λ x e. same_number shape.string x e)
suppressor_steps stages.Nines c shape = tt
suppressor_steps (stages.Letter letter) c shape = tt
suppressor_steps stages.Ended c shape = tt

nine_steps : (stage : Stage) (c : ℕ) (shape : Shape) → Steps c stage shape (nine_by stage shape)
nine_steps stages.Start c shape = nines_step c stages.Start shape refl (λ x e. nothing x e)
nine_steps (stages.Lead lead) c shape = nines_step c (stages.Lead lead) shape refl (λ x e. nothing x e)
nine_steps stages.Body c shape = nines_step c stages.Body shape refl (λ x e. nothing x e)
nine_steps (stages.Led lead) c shape = nines_step c (stages.Led lead) shape refl (λ x e. nothing x e)
nine_steps (stages.Once first) c shape = tt
nine_steps stages.InString c shape =
    either_way (Steps c stages.InString shape) (shape.part == 0) _ _
    (λ _. nines_step c stages.InString shape refl (λ x e. same_number shape.string x e)) (λ _. tt)
nine_steps stages.Nines c shape = nines_step c stages.Nines shape refl (λ x e. same_number shape.string x e)
nine_steps (stages.Letter letter) c shape = tt
nine_steps stages.Ended c shape = tt

body_steps : (stage : Stage) (c : ℕ) (shape : Shape) → shape.stage ≡ stage → Steps c stage shape (body_by stage shape)
body_steps stages.Start c shape at = stage_step c stages.Start stages.Body shape refl (λ h. refl) (λ x e. nothing x e) (λ h. absurd cc)
body_steps (stages.Lead lead) c shape at = stage_step c (stages.Lead lead) (stages.Led lead) shape refl (λ h. refl) (λ x e. nothing x e) (λ h. absurd cc)
body_steps stages.Body c shape at = same_step c stages.Body shape at refl
body_steps (stages.Led lead) c shape at = same_step c (stages.Led lead) shape at refl
body_steps (stages.Once first) c shape at = same_step c (stages.Once first) shape at refl
body_steps stages.InString c shape at = same_step c stages.InString shape at refl
body_steps stages.Nines c shape at = same_step c stages.Nines shape at refl
body_steps (stages.Letter letter) c shape at = tt
body_steps stages.Ended c shape at = tt

insertion_steps : (stage : Stage) (c : ℕ) (shape : Shape) → shape.stage ≡ stage → Steps c stage shape (insertion_by stage c shape)
insertion_steps stages.Start c shape at = body_steps stages.Start c shape at
insertion_steps (stages.Lead lead) c shape at = body_steps (stages.Lead lead) c shape at
insertion_steps stages.Body c shape at = body_steps stages.Body c shape at
insertion_steps (stages.Led lead) c shape at = body_steps (stages.Led lead) c shape at
insertion_steps (stages.Once first) c shape at = body_steps (stages.Once first) c shape at
insertion_steps stages.InString c shape at = body_steps stages.InString c shape at
insertion_steps stages.Nines c shape at = body_steps stages.Nines c shape at
insertion_steps (stages.Letter letter) c shape at =
    either_way (Steps c (stages.Letter letter) shape) (letter == symbol_d && c == symbol_b) _ _
    (λ _. stage_step c (stages.Letter letter) stages.Ended shape refl (λ h. absurd cc) (λ x e. e) (λ h. refl)) (λ _. tt)
insertion_steps stages.Ended c shape at = tt

-- the point changes none of this
pointed : (c : ℕ) (stage : Stage) (shape : Shape) (o : Option Shape) → Steps c stage (record shape { point = true }) o → Steps c stage shape o
pointed c stage shape None steps = tt
pointed c stage shape (Some next) step = record { starts = step.starts; early = step.early; promised = step.promised; tails = step.tails; signs = step.signs }

point_steps : (stage : Stage) (c : ℕ) (shape : Shape) → shape.stage ≡ stage → Steps c stage shape (point_by stage shape)
point_steps stage c shape at =
    either_way (Steps c stage shape) shape.point _ _ (λ _. tt)
    (λ _. pointed c stage shape (body_by stage (record shape { point = true })) (body_steps stage c (record shape { point = true }) at))

letter_steps : (stage : Stage) (c : ℕ) (shape : Shape) → is_tail_letter c ≡ true → Steps c stage shape (letter_by stage c shape)
letter_steps stages.Start c shape is = tt
letter_steps (stages.Lead lead) c shape is = tt
letter_steps stages.Body c shape is = tt
letter_steps (stages.Led lead) c shape is = tt
letter_steps (stages.Once first) c shape is = tt
letter_steps stages.InString c shape is = signed_step c stages.InString (stages.Letter c) shape refl (λ h. absurd cc) (λ x e. e) refl (in_tail refl (or_right (is_sign c) (is_tail_letter c) is))
letter_steps stages.Nines c shape is = signed_step c stages.Nines (stages.Letter c) shape refl (λ h. absurd cc) (λ x e. e) refl (in_tail refl (or_right (is_sign c) (is_tail_letter c) is))
letter_steps (stages.Letter letter) c shape is = tt
letter_steps stages.Ended c shape is = tt

last_letter_steps : (stage : Stage) (c : ℕ) (shape : Shape) → Steps c stage shape (last_letter_by stage shape)
last_letter_steps stages.Start c shape = tt
last_letter_steps (stages.Lead lead) c shape = tt
last_letter_steps stages.Body c shape = tt
last_letter_steps (stages.Led lead) c shape = tt
last_letter_steps (stages.Once first) c shape = tt
last_letter_steps stages.InString c shape = tt
last_letter_steps stages.Nines c shape = tt
last_letter_steps (stages.Letter letter) c shape =
    either_way (Steps c (stages.Letter letter) shape) (letter == symbol_c) _ _
    (λ _. stage_step c (stages.Letter letter) stages.Ended shape refl (λ h. absurd cc) (λ x e. e) (λ h. refl)) (λ _. tt)
last_letter_steps stages.Ended c shape = tt

-- ---- all symbols

pub behind_steps : (c : ℕ) (shape : Shape) → IfSome (behind c shape) (λ next. Step c shape.stage shape next)
unfolding behind
behind_steps c shape =
    either_way (Steps c shape.stage shape) (is_sign c) _ _ (λ is. sign_steps shape.stage c shape is)
    (λ _. either_way (Steps c shape.stage shape) (c == symbol_dollar) _ _
    (λ is. subst (λ d. Steps d shape.stage shape (dollar_by shape.stage shape)) (sym (eqb-true c 36 is)) (dollar_steps shape.stage shape))
    (λ _. either_way (Steps c shape.stage shape) (is_suppressor c) _ _ (λ _. suppressor_steps shape.stage c shape)
    (λ _. either_way (Steps c shape.stage shape) (c == symbol_9) _ _ (λ _. nine_steps shape.stage c shape)
    (λ _. either_way (Steps c shape.stage shape) (is_insertion c) _ _ (λ _. insertion_steps shape.stage c shape refl)
    (λ _. either_way (Steps c shape.stage shape) (is_point c) _ _ (λ _. point_steps shape.stage c shape refl)
    (λ _. either_way (Steps c shape.stage shape) (is_tail_letter c) _ _ (λ is. letter_steps shape.stage c shape is)
    (λ _. either_way (Steps c shape.stage shape) (c == symbol_r) _ _ (λ _. last_letter_steps shape.stage c shape) (λ _. tt))))))))
