-- What is made for an ask.
use Rattle.std.proofs.Common.{◌≡◌, ℕ, List, Some, Ok, Err, refl, sym, subst, inl, inr}
use Rattle.cob_base.specs.declared.limit.Limit.{Limit}
use Rattle.cobol_read.specs.Reading.{Reads}
use Rattle.cobol_read.proofs.OneWay.{one_way}
use Rattle.program_gen.specs.Generated.{generated}
use Rattle.restructure_core.specs.declared.fault.Refused.{Refused}
use Rattle.restructure_core.specs.declared.fault.Refused.TheVariants as refused
use Rattle.restructure_core.specs.Flow.{HasFlowFault, IsFaultless, PassesRanges}
use Rattle.restructure_core.specs.Pipeline.{IsUnread, HasCause}
use Rattle.restructure_core.proofs.Ranges.{within-past}
use Rattle.restructure_asks.specs.declared.ask.Ask.TheVariants.{Restructure, Check, Trial}
use Rattle.restructure_asks.specs.declared.refusal.Refusal.{Refusal}
use Rattle.restructure_asks.specs.declared.refusal.Refusal.TheVariants as refusal
use Rattle.restructure_asks.specs.Refusal.{of_refused}
use Rattle.restructure_asks.specs.Answer.{Answer, IsMadeFor, IsOfCheck, IsOfTrial, program_text}

cause-made : (bytes : List ℕ) (why : Refused) → HasCause bytes why →
    IsMadeFor (Some Restructure) bytes (Err (of_refused why))
cause-made bytes (refused.NotSubset fault) h = inl ((λ e. cc), h)
cause-made bytes (refused.Flow program trail) h = inl ((λ e. cc), h)
cause-made bytes (refused.Limit limit) h = inl ((λ e. cc), h)
cause-made bytes refused.NoMemory h = inr refl

-- a refusal is due, or memory was wanted
pub refusal-made : (bytes : List ℕ) (why : Refused) (refusal : Refusal) →
    refusal ≡ of_refused why → HasCause bytes why →
    IsMadeFor (Some Restructure) bytes (Err refusal)
refusal-made bytes why refusal is h =
    subst (λ (r : Refusal). IsMadeFor (Some Restructure) bytes (Err r)) (sym is)
    (cause-made bytes why h)

-- What is due to a check of a generated program's text, which reads to it and has no fault of flow,
-- is due to a trial.
module _ (n : ℕ) (reads : Reads (program_text n) (generated n))
    (faultless : IsFaultless (generated n)) where
  unread-never : (why : Refused) → IsUnread (program_text n) why → ⊥
  unread-never why h = one_way.refused (program_text n) (generated n) h.why reads h.some h.cause

  limit-due : (limit : Limit) → HasCause (program_text n) (refused.Limit limit) →
      IsOfTrial n (Err (refusal.Refused (refused.Limit limit)))
  limit-due limit (inl h) = absurd (unread-never (refused.Limit limit) h)
  limit-due limit (inr (inl h)) =
      let same = one_way.program (program_text n) h.program (generated n) h.reads reads in
      absurd (within-past (generated n) limit faultless.within (subst (λ p. PassesRanges p limit) same h.past))
  limit-due limit (inr (inr h)) = h

  trial-due : (answer : Answer) → IsOfCheck (program_text n) answer → IsOfTrial n answer
  trial-due (Ok texts) h = h
  trial-due (Err refusal.Usage) h = h
  trial-due (Err (refusal.Refused (refused.NotSubset why))) h =
      unread-never (refused.NotSubset why) h.1
  trial-due (Err (refusal.Refused (refused.Flow program trail))) h =
      let same = one_way.program (program_text n) program (generated n) h.1.reads reads in
      faultless.never (subst (λ p. HasFlowFault p) same h.1.faulty.faulty)
  trial-due (Err (refusal.Refused (refused.Limit limit))) h = limit-due limit h.1
  trial-due (Err (refusal.Refused refused.NoMemory)) h = h.0 refl
  trial-due (Err (refusal.Device name)) h = h
  trial-due (Err (refusal.Fault program fault)) h = h
  trial-due (Err (refusal.Abend abend)) h = h
  trial-due (Err (refusal.Budget steps)) h = h
  trial-due (Err refusal.ReadFault) h = h
  trial-due (Err refusal.NoSecond) h = h
  trial-due (Err (refusal.Second why)) h = h
  trial-due (Err (refusal.SecondDevice name)) h = h
  trial-due (Err (refusal.Differ number)) h = h
  trial-due (Err refusal.WriteFault) h = h
  trial-due (Err refusal.NoMemory) h = h

  pub trial-made : (bytes : List ℕ) (answer : Answer) → IsMadeFor (Some Check) (program_text n) answer →
      IsMadeFor (Some (Trial n)) bytes answer
  trial-made bytes answer (inl h) = inl (trial-due answer h)
  trial-made bytes answer (inr none) = inr none
