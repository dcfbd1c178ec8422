-- What was written of a source is written again where it is the source.
use Rattle.std.proofs.Common.{◌≡◌, ℕ, List, Option, Some, None, Result, Ok, Err, refl, ap, sym, ◌∙◌, subst, inl, inr}
use Rattle.std.specs.Prelude.{[], ◌∷◌}
use Rattle.cob_base.specs.Source.{SourceCall}
use Rattle.cob_base.specs.Sink.{SinkCall}
use Rattle.fixed_point_laws.specs.Results.{ResultsAreFixed}
use Rattle.restructure_core.specs.declared.fault.Refused.{Refused}
use Rattle.restructure_core.specs.declared.fault.Refused.TheVariants as refused
use Rattle.restructure_core.specs.declared.pipeline.Done.{Done}
use Rattle.restructure_core.specs.Pipeline.{IsRestructured, HasCause, IsResultText}
use Rattle.restructure_core.proofs.OneAnswer.{comes-again}
use Rattle.restructure_asks.specs.declared.ask.Ask.TheVariants.{Restructure}
use Rattle.restructure_asks.specs.declared.refusal.Refusal.{Refusal}
use Rattle.restructure_asks.specs.declared.refusal.Refusal.TheVariants as refusal
use Rattle.restructure_asks.specs.declared.status.Status.{Status}
use Rattle.restructure_asks.specs.declared.status.Status.TheVariants as status
use Rattle.restructure_asks.specs.declared.texts.Texts.{Texts}
use Rattle.restructure_asks.specs.Answer.{Answer, IsAnswered, IsDue, IsRefusalOf}
use Rattle.restructure_asks.specs.Laws.{ResultComesAgain}
use Rattle.restructure_asks.specs.Reading.{Tells}
use Rattle.restructure_asks.specs.Status.{IsOneOf}
use Rattle.restructure_asks.specs.Tool.{Ends, EndsOfText, IsDone, IsRefused}
use Rattle.cob_base.specs.giving.Giving.{Gains}

module _ (are_fixed : ResultsAreFixed) (bytes : List ℕ) (is : IsResultText bytes) where
  -- it is restructured to itself
  same-text : (done : Done) → IsRestructured bytes done → done.text ≡ bytes
  same-text done told = elim (comes-again bytes (Ok done) told tt are_fixed is) [
    | inl h ↦ (let one : done ≡ h.0 = cc in ap (λ (d : Done). d.text) one ∙ h.2)
    | inr wanted ↦ absurd (let k : ⊥ = cc in k)
  ]

  -- and refused for no cause
  no-cause : (why : Refused) → HasCause bytes why → why ≡ refused.NoMemory
  no-cause why cause = elim (comes-again bytes (Err why) tt cause are_fixed is) [
    | inl h ↦ absurd (let e = h.1 in let k : ⊥ = cc in k)
    | inr wanted ↦ (let k : why ≡ refused.NoMemory = cc in k)
  ]

  none-refused : (one : Refusal) → IsRefusalOf bytes one → ⊥
  none-refused refusal.Usage h = h
  none-refused (refusal.Refused why) h = h.0 (no-cause why h.1)
  none-refused (refusal.Device name) h = h
  none-refused (refusal.Fault program fault) h = h
  none-refused (refusal.Abend abend) h = h
  none-refused (refusal.Budget steps) h = h
  none-refused refusal.ReadFault h = h
  none-refused refusal.NoSecond h = h
  none-refused (refusal.Second why) h = h
  none-refused (refusal.SecondDevice name) h = h
  none-refused (refusal.Differ number) h = h
  none-refused refusal.WriteFault h = h
  none-refused refusal.NoMemory h = h

  module _ (source : SourceCall) (out notes : SinkCall) (told : source.told ≡ Some bytes) where
    -- the bytes of the answer are those of the source
    same : (answer : Answer) → (h : IsAnswered (Some Restructure) source answer) → bytes ≡ h.bytes
    same answer h = subst (λ t. Tells t h.bytes) told h.told

    unrefused : (answer : Status) → IsRefused (Some Restructure) source out notes answer → ⊥
    unrefused answer h =
        none-refused h.refusal
        (subst (λ b. IsRefusalOf b h.refusal) (sym (same (Err h.refusal) h.answered)) h.answered.due)

    written : IsDone (Some Restructure) source out notes → Gains bytes out
    written h =
        let due = subst (λ b. IsDue (Some Restructure) b (Ok h.texts)) (sym (same (Ok h.texts) h.answered)) h.answered.due in
        subst (λ text. Gains text out) (ap (λ (texts : Texts). texts.text) due.2 ∙ same-text due.0 due.1) h.written

    abbrev Comes : Status → Type 0
    Comes answer = IsOneOf (status.Done ∷ status.WriteFault ∷ status.ReadFault ∷ status.NoMemory ∷ []) answer
        × (answer ≡ status.Done → Gains bytes out)

    pub comes : (answer : Status) → EndsOfText (Some Restructure) source out notes answer → Comes answer
    comes status.Done h = (inl refl, λ e. written h)
    comes status.Usage h = absurd (unrefused status.Usage h)
    comes status.NotSubset h = absurd (unrefused status.NotSubset h)
    comes status.Flow h = absurd (unrefused status.Flow h)
    comes status.Limit h = absurd (unrefused status.Limit h)
    comes status.ReadFault h = (inr (inr (inl refl)), λ e. absurd (let k : ⊥ = cc in k))
    comes status.WriteFault h = (inr (inl refl), λ e. absurd (let k : ⊥ = cc in k))
    comes status.DeviceFault h = absurd h
    comes status.Abend h = absurd h
    comes status.Budget h = absurd h
    comes status.Differ h = absurd h
    comes status.NoMemory h = (inr (inr (inr (inl refl))), λ e. absurd (let k : ⊥ = cc in k))

pub result-again : ResultsAreFixed → ResultComesAgain
result-again are_fixed = λ source out notes answer ends bytes told is. comes are_fixed bytes is source out notes told answer ends
