-- At most one answer is due, and what is due comes.
use Rattle.std.proofs.Common.{◌≡◌, ℕ, ◌+◌, ◌≤◌, List, length, Option, Some, None, Ok, Err, refl, ap, sym, ◌∙◌, subst, arith, inl, inr}
use Rattle.std.specs.Prelude.{[], ◌∷◌, ◌≢◌, IsOk}
use Rattle.std.proofs.Math.ListN.{drop_of_length-le}
use Rattle.cob_base.specs.Source.{SourceCall}
use Rattle.cob_base.specs.Sink.{SinkCall}
use Rattle.cob_tree.specs.declared.program.Program.{Program}
use Rattle.cob_base.specs.Limit.{max_source}
use Rattle.procedure_split.specs.report.Lines.{report_text}
use Rattle.restructure_core.specs.declared.fault.Refused.{Refused}
use Rattle.restructure_core.specs.declared.fault.Refused.TheVariants as refused
use Rattle.restructure_core.specs.declared.pipeline.Done.{Done}
use Rattle.program_points.specs.declared.paths.trail.Trail.{Trail}
use Rattle.restructure_core.specs.Pipeline.{IsRestructured, IsFaultySource, IsRestructurable, IsRefusedByTrail, HasCause}
use Rattle.restructure_core.proofs.OneAnswer.{Outcome, IsAlike, IsDueTo, alike, done-due, cause-due, comes-faulty, comes-done}
use Rattle.restructure_asks.specs.declared.ask.Ask.{Ask}
use Rattle.restructure_asks.specs.declared.ask.Ask.TheVariants.{Restructure, Report, Check, Run, Compare, Generate, Trial}
use Rattle.restructure_asks.specs.declared.texts.Texts.{Texts}
use Rattle.restructure_asks.specs.declared.refusal.Refusal.{Refusal}
use Rattle.restructure_asks.specs.declared.refusal.Refusal.TheVariants as refusal
use Rattle.restructure_asks.specs.declared.status.Status.{Status}
use Rattle.restructure_asks.specs.declared.status.Status.TheVariants as status
use Rattle.restructure_asks.specs.Status.{IsOneOf}
use Rattle.restructure_asks.specs.Refusal.{refused_status, status_of}
use Rattle.restructure_asks.specs.Texts.{text_alone, with_report}
use Rattle.restructure_asks.specs.Answer.{Answer, IsUnasked, IsRefusalOf, IsOfRestructure, IsOfReport, IsOfCheck, IsOfGenerate, IsOfTrial, IsDue, IsAnswered, program_text}
use Rattle.restructure_asks.specs.Reading.{Tells}
use Rattle.restructure_asks.specs.Tool.{EndsOfText, IsRefused}
use Rattle.restructure_asks.specs.Laws.{trail_answer, AreAlike, statuses_of, OneAnswerIsDue, DueAnswerComes, AcceptedSourceIsDone, FaultySourceIsRefused, RefusedForFlowIsFaulty, UsageComes, GeneratedComes, TrialComes, WithinLimitAllIsRead}

unasked-is : (answer : Answer) → IsUnasked answer → answer ≡ Err refusal.Usage
unasked-is (Ok texts) h = absurd h
unasked-is (Err refusal.Usage) h = refl
unasked-is (Err (refusal.Refused why)) h = absurd h
unasked-is (Err (refusal.Device name)) h = absurd h
unasked-is (Err (refusal.Fault program fault)) h = absurd h
unasked-is (Err (refusal.Abend abend)) h = absurd h
unasked-is (Err (refusal.Budget steps)) h = absurd h
unasked-is (Err refusal.ReadFault) h = absurd h
unasked-is (Err refusal.NoSecond) h = absurd h
unasked-is (Err (refusal.Second why)) h = absurd h
unasked-is (Err (refusal.SecondDevice name)) h = absurd h
unasked-is (Err (refusal.Differ number)) h = absurd h
unasked-is (Err refusal.WriteFault) h = absurd h
unasked-is (Err refusal.NoMemory) h = absurd h

-- What is due to bytes, by what is written where they are restructured.
module _ (written : Done → Texts) where
  abbrev answer_to : Outcome → Answer
  answer_to (Ok done) = Ok (written done)
  answer_to (Err why) = Err (refusal.Refused why)

  abbrev IsOfDue : List ℕ → Answer → Type 0
  IsOfDue bytes answer = (outcome : Outcome) × (answer ≡ answer_to outcome) × IsDueTo bytes outcome

  refusal-of-due : (bytes : List ℕ) (r : Refusal) → IsRefusalOf bytes r → IsOfDue bytes (Err r)
  refusal-of-due bytes refusal.Usage h = absurd h
  refusal-of-due bytes (refusal.Refused why) h = elim (cause-due bytes why h.1) [
    | inl none ↦ absurd (h.0 none)
    | inr due ↦ (Err why, refl, due)
  ]
  refusal-of-due bytes (refusal.Device name) h = absurd h
  refusal-of-due bytes (refusal.Fault program fault) h = absurd h
  refusal-of-due bytes (refusal.Abend abend) h = absurd h
  refusal-of-due bytes (refusal.Budget steps) h = absurd h
  refusal-of-due bytes refusal.ReadFault h = absurd h
  refusal-of-due bytes refusal.NoSecond h = absurd h
  refusal-of-due bytes (refusal.Second why) h = absurd h
  refusal-of-due bytes (refusal.SecondDevice name) h = absurd h
  refusal-of-due bytes (refusal.Differ number) h = absurd h
  refusal-of-due bytes refusal.WriteFault h = absurd h
  refusal-of-due bytes refusal.NoMemory h = absurd h

  alike-to : (one other : Outcome) → IsAlike one other → AreAlike (answer_to one) (answer_to other)
  alike-to one other (inl same) = inl (ap answer_to same)
  alike-to one other (inr h) = inr (h.0, h.1, h.2, ap answer_to h.3, ap answer_to h.4)

  alike-due : (bytes : List ℕ) (one other : Answer) → IsOfDue bytes one → IsOfDue bytes other → AreAlike one other
  alike-due bytes one other due more =
      subst (λ a. AreAlike a other) (sym due.1) (subst (λ a. AreAlike (answer_to due.0) a) (sym more.1) (alike-to due.0 more.0 (alike bytes due.0 more.0 due.2 more.2)))

abbrev alone : Done → Texts
alone done = text_alone done.text

abbrev both : Done → Texts
both done = with_report done.text (report_text done.report)

abbrev lines : Done → Texts
lines done = text_alone (report_text done.report)

restructure-due : (bytes : List ℕ) (answer : Answer) → IsOfRestructure bytes answer → IsOfDue alone bytes answer
restructure-due bytes (Ok texts) h = (Ok h.0, ap Ok h.2, done-due bytes h.0 h.1)
restructure-due bytes (Err r) h = refusal-of-due alone bytes r h

report-due : (bytes : List ℕ) (answer : Answer) → IsOfReport bytes answer → IsOfDue both bytes answer
report-due bytes (Ok texts) h = (Ok h.0, ap Ok h.2, done-due bytes h.0 h.1)
report-due bytes (Err r) h = refusal-of-due both bytes r h

check-due : (bytes : List ℕ) (answer : Answer) → IsOfCheck bytes answer → IsOfDue lines bytes answer
check-due bytes (Ok texts) h = (Ok (record { text = h.1.0; report = h.0 }), ap Ok h.2, done-due bytes _ h.1.1)
check-due bytes (Err r) h = refusal-of-due lines bytes r h

one-check : (bytes : List ℕ) (one other : Answer) → IsOfCheck bytes one → IsOfCheck bytes other → AreAlike one other
one-check bytes one other h g = alike-due lines bytes one other (check-due bytes one h) (check-due bytes other g)

one-generated : (n : ℕ) (one other : Answer) → IsOfGenerate n one → IsOfGenerate n other → AreAlike one other
one-generated n (Ok one) (Ok other) h g = inl (ap Ok (h.is ∙ sym g.is))
one-generated n (Ok one) (Err other) h g = absurd g
one-generated n (Err one) other h g = absurd h

-- what is due to a trial is due to a check of the program's text
trial-check : (n : ℕ) (answer : Answer) → IsOfTrial n answer → IsOfCheck (program_text n) answer
trial-check n (Ok texts) h = h
trial-check n (Err refusal.Usage) h = h
trial-check n (Err (refusal.Refused (refused.NotSubset why))) h = absurd h
trial-check n (Err (refusal.Refused (refused.Flow program trail))) h = absurd h
trial-check n (Err (refusal.Refused (refused.Limit limit))) h = ((λ e. cc), inr (inr h))
trial-check n (Err (refusal.Refused refused.NoMemory)) h = absurd h
trial-check n (Err (refusal.Device name)) h = h
trial-check n (Err (refusal.Fault program fault)) h = h
trial-check n (Err (refusal.Abend abend)) h = h
trial-check n (Err (refusal.Budget steps)) h = h
trial-check n (Err refusal.ReadFault) h = h
trial-check n (Err refusal.NoSecond) h = h
trial-check n (Err (refusal.Second why)) h = h
trial-check n (Err (refusal.SecondDevice name)) h = h
trial-check n (Err (refusal.Differ number)) h = h
trial-check n (Err refusal.WriteFault) h = h
trial-check n (Err refusal.NoMemory) h = h

pub one-answer : OneAnswerIsDue
one-answer None bytes one other h g = inl (unasked-is one h ∙ sym (unasked-is other g))
one-answer (Some Restructure) bytes one other h g = alike-due alone bytes one other (restructure-due bytes one h) (restructure-due bytes other g)
one-answer (Some Report) bytes one other h g = alike-due both bytes one other (report-due bytes one h) (report-due bytes other g)
one-answer (Some Check) bytes one other h g = one-check bytes one other h g
one-answer (Some (Run steps)) bytes one other h g = absurd h
one-answer (Some (Compare steps)) bytes one other h g = absurd h
one-answer (Some (Generate n)) bytes one other h g = one-generated n one other h g
one-answer (Some (Trial n)) bytes one other h g = one-check (program_text n) one other (trial-check n one h) (trial-check n other g)

-- What is due comes.

trail-statuses : (program : Program) (trail : Trail) → statuses_of (trail_answer program trail) ≡ status.Flow ∷ status.ReadFault ∷ status.NoMemory ∷ []
trail-statuses program trail = refl

alike-statuses : (one other : Answer) → AreAlike one other → statuses_of one ≡ statuses_of other
alike-statuses one other (inl same) = ap statuses_of same
alike-statuses one other (inr h) =
    ap statuses_of h.3 ∙ trail-statuses h.0 h.1 ∙ sym (trail-statuses h.0 h.2) ∙ sym (ap statuses_of h.4)

module _ (ask : Option Ask) (source : SourceCall) (bytes : List ℕ) (due : Answer) (told : source.told ≡ Some bytes) (is_due : IsDue ask bytes due) where
  -- what is answered has the statuses of what is due
  answered-as : (answer : Answer) → IsAnswered ask source answer → statuses_of answer ≡ statuses_of due
  answered-as answer h =
      let same : bytes ≡ h.bytes = subst (λ t. Tells t h.bytes) told h.told in
      alike-statuses answer due (one-answer ask bytes answer due (subst (λ b. IsDue ask b answer) (sym same) h.due) is_due)

  refused-comes : (out notes : SinkCall) (answer : Status) → IsRefused ask source out notes answer → IsOneOf (statuses_of due) answer
  refused-comes out notes answer h = subst (λ ss. IsOneOf ss answer) (answered-as (Err h.refusal) h.answered) (inl h.status)

read-fault-comes : (due : Answer) → IsOneOf (statuses_of due) status.ReadFault
read-fault-comes (Ok texts) = inr (inr (inl refl))
read-fault-comes (Err refusal) = inr (inl refl)

no-memory-comes : (due : Answer) → IsOneOf (statuses_of due) status.NoMemory
no-memory-comes (Ok texts) = inr (inr (inr (inl refl)))
no-memory-comes (Err refusal) = inr (inr (inl refl))

text-comes : (ask : Option Ask) (source : SourceCall) (out notes : SinkCall) (answer : Status) → EndsOfText ask source out notes answer → (bytes : List ℕ) (due : Answer) → source.told ≡ Some bytes → IsDue ask bytes due → IsOneOf (statuses_of due) answer
text-comes ask source out notes status.Done h bytes due told is_due =
    subst (λ ss. IsOneOf ss status.Done) (answered-as ask source bytes due told is_due (Ok h.texts) h.answered) (inl refl)
text-comes ask source out notes status.Usage h bytes due told is_due = refused-comes ask source bytes due told is_due out notes status.Usage h
text-comes ask source out notes status.NotSubset h bytes due told is_due = refused-comes ask source bytes due told is_due out notes status.NotSubset h
text-comes ask source out notes status.Flow h bytes due told is_due = refused-comes ask source bytes due told is_due out notes status.Flow h
text-comes ask source out notes status.Limit h bytes due told is_due = refused-comes ask source bytes due told is_due out notes status.Limit h
text-comes ask source out notes status.ReadFault h bytes due told is_due = read-fault-comes due
text-comes ask source out notes status.WriteFault h bytes due told is_due =
    subst (λ ss. IsOneOf ss status.WriteFault) (answered-as ask source bytes due told is_due (Ok h.texts) h.answered) (inr (inl refl))
text-comes ask source out notes status.DeviceFault h bytes due told is_due = absurd h
text-comes ask source out notes status.Abend h bytes due told is_due = absurd h
text-comes ask source out notes status.Budget h bytes due told is_due = absurd h
text-comes ask source out notes status.Differ h bytes due told is_due = absurd h
text-comes ask source out notes status.NoMemory h bytes due told is_due = no-memory-comes due

pub due-comes : DueAnswerComes
due-comes None source out notes answer h bytes due told is_due = text-comes None source out notes answer h bytes due told is_due
due-comes (Some Restructure) source out notes answer h bytes due told is_due = text-comes (Some Restructure) source out notes answer h bytes due told is_due
due-comes (Some Report) source out notes answer h bytes due told is_due = text-comes (Some Report) source out notes answer h bytes due told is_due
due-comes (Some Check) source out notes answer h bytes due told is_due = text-comes (Some Check) source out notes answer h bytes due told is_due
due-comes (Some (Run steps)) source out notes answer h bytes due told is_due = absurd is_due
due-comes (Some (Compare steps)) source out notes answer h bytes due told is_due = absurd is_due
due-comes (Some (Generate n)) source out notes answer h bytes due told is_due = text-comes (Some (Generate n)) source out notes answer h bytes due told is_due
due-comes (Some (Trial n)) source out notes answer h bytes due told is_due = text-comes (Some (Trial n)) source out notes answer h bytes due told is_due

-- No refusal is due to bytes that are accepted.

not-ok : (why : Refused) → IsOk {T = Done} (Err why) → ⊥
not-ok why h = cc

same-refused : (one other : Refused) → ◌≡◌ {A = Outcome} (Err one) (Err other) → one ≡ other
same-refused one other h = cc

accepted-clear : (bytes : List ℕ) (why : Refused) → IsRestructurable bytes → why ≢ refused.NoMemory → HasCause bytes why → ⊥
accepted-clear bytes why is some h = elim (comes-done bytes (Err why) tt h is) [
  | inl ok ↦ not-ok why ok
  | inr none ↦ some (same-refused why refused.NoMemory none)
]

accepted-never : (bytes : List ℕ) (r : Refusal) → IsRestructurable bytes → IsRefusalOf bytes r → ⊥
accepted-never bytes refusal.Usage h g = g
accepted-never bytes (refusal.Refused why) h g = accepted-clear bytes why h g.0 g.1
accepted-never bytes (refusal.Device name) h g = g
accepted-never bytes (refusal.Fault program fault) h g = g
accepted-never bytes (refusal.Abend abend) h g = g
accepted-never bytes (refusal.Budget steps) h g = g
accepted-never bytes refusal.ReadFault h g = g
accepted-never bytes refusal.NoSecond h g = g
accepted-never bytes (refusal.Second why) h g = g
accepted-never bytes (refusal.SecondDevice name) h g = g
accepted-never bytes (refusal.Differ number) h g = g
accepted-never bytes refusal.WriteFault h g = g
accepted-never bytes refusal.NoMemory h g = g

module _ (ask : Option Ask) (source : SourceCall) (out notes : SinkCall) (bytes : List ℕ) (told : source.told ≡ Some bytes) (never : (r : Refusal) → IsDue ask bytes (Err r) → ⊥) where
  never-refused : (answer : Status) → IsRefused ask source out notes answer → ⊥
  never-refused answer h =
      let same : bytes ≡ h.answered.bytes = subst (λ t. Tells t h.answered.bytes) told h.answered.told in
      never h.refusal (subst (λ b. IsDue ask b (Err h.refusal)) (sym same) h.answered.due)

  done-comes : (answer : Status) → EndsOfText ask source out notes answer → IsOneOf (status.Done ∷ status.WriteFault ∷ status.ReadFault ∷ status.NoMemory ∷ []) answer
  done-comes status.Done h = inl refl
  done-comes status.Usage h = absurd (never-refused status.Usage h)
  done-comes status.NotSubset h = absurd (never-refused status.NotSubset h)
  done-comes status.Flow h = absurd (never-refused status.Flow h)
  done-comes status.Limit h = absurd (never-refused status.Limit h)
  done-comes status.ReadFault h = inr (inr (inl refl))
  done-comes status.WriteFault h = inr (inl refl)
  done-comes status.DeviceFault h = absurd h
  done-comes status.Abend h = absurd h
  done-comes status.Budget h = absurd h
  done-comes status.Differ h = absurd h
  done-comes status.NoMemory h = inr (inr (inr (inl refl)))

pub accepted-done : AcceptedSourceIsDone
accepted-done Restructure source out notes answer about h bytes told is = done-comes (Some Restructure) source out notes bytes told (λ r g. accepted-never bytes r is g) answer h
accepted-done Report source out notes answer about h bytes told is = done-comes (Some Report) source out notes bytes told (λ r g. accepted-never bytes r is g) answer h
accepted-done Check source out notes answer about h bytes told is = done-comes (Some Check) source out notes bytes told (λ r g. accepted-never bytes r is g) answer h
accepted-done (Run steps) source out notes answer about h bytes told is = absurd about
accepted-done (Compare steps) source out notes answer about h bytes told is = absurd about
accepted-done (Generate n) source out notes answer about h bytes told is = absurd about
accepted-done (Trial n) source out notes answer about h bytes told is = absurd about

-- Bytes with a fault of flow are refused for it alone.

not-trail : (program : Program) (done : Done) → IsRefusedByTrail {T = Done} program (Ok done) → ⊥
not-trail program done (inl h) = (let e = h.1 in cc)
not-trail program done (inr e) = cc

faulty-undone : (bytes : List ℕ) (program : Program) (done : Done) → IsFaultySource bytes program → IsRestructured bytes done → ⊥
faulty-undone bytes program done is h = not-trail program done (comes-faulty bytes (Ok done) h tt program is)

flow-status : (why : Refused) (program : Program) → why ≢ refused.NoMemory → IsRefusedByTrail {T = Done} program (Err why) → refused_status why ≡ status.Flow
flow-status why program some (inl h) = ap refused_status (same-refused why (refused.Flow program h.0) h.1)
flow-status why program some (inr none) = absurd (some (same-refused why refused.NoMemory none))

faulty-status : (bytes : List ℕ) (program : Program) (r : Refusal) → IsFaultySource bytes program → IsRefusalOf bytes r → status_of r ≡ status.Flow
faulty-status bytes program refusal.Usage is g = absurd g
faulty-status bytes program (refusal.Refused why) is g = flow-status why program g.0 (comes-faulty bytes (Err why) tt g.1 program is)
faulty-status bytes program (refusal.Device name) is g = absurd g
faulty-status bytes program (refusal.Fault of fault) is g = absurd g
faulty-status bytes program (refusal.Abend abend) is g = absurd g
faulty-status bytes program (refusal.Budget steps) is g = absurd g
faulty-status bytes program refusal.ReadFault is g = absurd g
faulty-status bytes program refusal.NoSecond is g = absurd g
faulty-status bytes program (refusal.Second why) is g = absurd g
faulty-status bytes program (refusal.SecondDevice name) is g = absurd g
faulty-status bytes program (refusal.Differ number) is g = absurd g
faulty-status bytes program refusal.WriteFault is g = absurd g
faulty-status bytes program refusal.NoMemory is g = absurd g

-- whose refusal has the status FLOW
flow-cause : (bytes : List ℕ) (r : Refusal) → IsRefusalOf bytes r → status.Flow ≡ status_of r → (program : Program) × IsFaultySource bytes program
flow-cause bytes refusal.Usage g e = absurd g
flow-cause bytes (refusal.Refused (refused.NotSubset why)) g e = absurd (let e = e in cc)
flow-cause bytes (refusal.Refused (refused.Flow program trail)) g e =
    (program, record { reads = g.1.reads; within = g.1.faulty.within; faulty = g.1.faulty.faulty })
flow-cause bytes (refusal.Refused (refused.Limit limit)) g e = absurd (let e = e in cc)
flow-cause bytes (refusal.Refused refused.NoMemory) g e = absurd (let e = e in cc)
flow-cause bytes (refusal.Device name) g e = absurd g
flow-cause bytes (refusal.Fault program fault) g e = absurd g
flow-cause bytes (refusal.Abend abend) g e = absurd g
flow-cause bytes (refusal.Budget steps) g e = absurd g
flow-cause bytes refusal.ReadFault g e = absurd g
flow-cause bytes refusal.NoSecond g e = absurd g
flow-cause bytes (refusal.Second why) g e = absurd g
flow-cause bytes (refusal.SecondDevice name) g e = absurd g
flow-cause bytes (refusal.Differ number) g e = absurd g
flow-cause bytes refusal.WriteFault g e = absurd g
flow-cause bytes refusal.NoMemory g e = absurd g

module _ (ask : Option Ask) (source : SourceCall) (out notes : SinkCall) (bytes : List ℕ) (told : source.told ≡ Some bytes) where
  due-here : (answer : Answer) → IsAnswered ask source answer → IsDue ask bytes answer
  due-here answer h = subst (λ b. IsDue ask b answer) (sym (subst (λ t. Tells t h.bytes) told h.told)) h.due

  module _ (never : (texts : Texts) → IsDue ask bytes (Ok texts) → ⊥) (flow : (r : Refusal) → IsDue ask bytes (Err r) → status_of r ≡ status.Flow) where
    flow-comes : (answer : Status) → IsRefused ask source out notes answer → IsOneOf (status.Flow ∷ status.ReadFault ∷ status.NoMemory ∷ []) answer
    flow-comes answer h = inl (h.status ∙ flow h.refusal (due-here (Err h.refusal) h.answered))

    fault-comes : (answer : Status) → EndsOfText ask source out notes answer → IsOneOf (status.Flow ∷ status.ReadFault ∷ status.NoMemory ∷ []) answer
    fault-comes status.Done h = absurd (never h.texts (due-here (Ok h.texts) h.answered))
    fault-comes status.Usage h = flow-comes status.Usage h
    fault-comes status.NotSubset h = flow-comes status.NotSubset h
    fault-comes status.Flow h = flow-comes status.Flow h
    fault-comes status.Limit h = flow-comes status.Limit h
    fault-comes status.ReadFault h = inr (inl refl)
    fault-comes status.WriteFault h = absurd (never h.texts (due-here (Ok h.texts) h.answered))
    fault-comes status.DeviceFault h = absurd h
    fault-comes status.Abend h = absurd h
    fault-comes status.Budget h = absurd h
    fault-comes status.Differ h = absurd h
    fault-comes status.NoMemory h = inr (inr (inl refl))

  module _ (refusal : (r : Refusal) → IsDue ask bytes (Err r) → IsRefusalOf bytes r) where
    flow-faulty : IsRefused ask source out notes status.Flow → (program : Program) × IsFaultySource bytes program
    flow-faulty h = flow-cause bytes h.refusal (refusal h.refusal (due-here (Err h.refusal) h.answered)) h.status

pub faulty-refused : FaultySourceIsRefused
faulty-refused Restructure source out notes answer about h bytes program told is =
    fault-comes (Some Restructure) source out notes bytes told (λ texts g. faulty-undone bytes program g.0 is g.1) (λ r g. faulty-status bytes program r is g) answer h
faulty-refused Report source out notes answer about h bytes program told is =
    fault-comes (Some Report) source out notes bytes told (λ texts g. faulty-undone bytes program g.0 is g.1) (λ r g. faulty-status bytes program r is g) answer h
faulty-refused Check source out notes answer about h bytes program told is =
    fault-comes (Some Check) source out notes bytes told (λ texts g. faulty-undone bytes program _ is g.1.1) (λ r g. faulty-status bytes program r is g) answer h
faulty-refused (Run steps) source out notes answer about h bytes program told is = absurd about
faulty-refused (Compare steps) source out notes answer about h bytes program told is = absurd about
faulty-refused (Generate n) source out notes answer about h bytes program told is = absurd about
faulty-refused (Trial n) source out notes answer about h bytes program told is = absurd about

pub refused-faulty : RefusedForFlowIsFaulty
refused-faulty Restructure source out notes about h bytes told = flow-faulty (Some Restructure) source out notes bytes told (λ r g. g) h
refused-faulty Report source out notes about h bytes told = flow-faulty (Some Report) source out notes bytes told (λ r g. g) h
refused-faulty Check source out notes about h bytes told = flow-faulty (Some Check) source out notes bytes told (λ r g. g) h
refused-faulty (Run steps) source out notes about h bytes told = absurd about
refused-faulty (Compare steps) source out notes about h bytes told = absurd about
refused-faulty (Generate n) source out notes about h bytes told = absurd about
refused-faulty (Trial n) source out notes about h bytes told = absurd about

-- a refusal without an ask is USAGE
unasked-refused : (source : SourceCall) (out notes : SinkCall) (answer : Status) → IsRefused None source out notes answer → IsOneOf (status.Usage ∷ status.NoMemory ∷ []) answer
unasked-refused source out notes answer h =
    let is : h.refusal ≡ refusal.Usage = (let e = unasked-is (Err h.refusal) h.answered.due in cc) in
    inl (h.status ∙ ap status_of is)

pub usage-comes : UsageComes
usage-comes source out notes status.Done h = absurd h.answered.due
usage-comes source out notes status.Usage h = inl refl
usage-comes source out notes status.NotSubset h = unasked-refused source out notes status.NotSubset h
usage-comes source out notes status.Flow h = unasked-refused source out notes status.Flow h
usage-comes source out notes status.Limit h = unasked-refused source out notes status.Limit h
usage-comes source out notes status.ReadFault h = absurd (let some = h.fault.asked in omega (arith, some))
usage-comes source out notes status.WriteFault h = absurd h.answered.due
usage-comes source out notes status.DeviceFault h = absurd h
usage-comes source out notes status.Abend h = absurd h
usage-comes source out notes status.Budget h = absurd h
usage-comes source out notes status.Differ h = absurd h
usage-comes source out notes status.NoMemory h = inr (inl refl)

pub generated-comes : GeneratedComes
generated-comes n source out notes status.Done h = inl refl
generated-comes n source out notes status.Usage h = absurd h.answered.due
generated-comes n source out notes status.NotSubset h = absurd h.answered.due
generated-comes n source out notes status.Flow h = absurd h.answered.due
generated-comes n source out notes status.Limit h = absurd h.answered.due
generated-comes n source out notes status.ReadFault h = absurd (let some = h.fault.asked in omega (arith, some))
generated-comes n source out notes status.WriteFault h = inr (inl refl)
generated-comes n source out notes status.DeviceFault h = absurd h
generated-comes n source out notes status.Abend h = absurd h
generated-comes n source out notes status.Budget h = absurd h
generated-comes n source out notes status.Differ h = absurd h
generated-comes n source out notes status.NoMemory h = inr (inr (inl refl))

-- whose refusal is due to a trial
trial-limit : (n : ℕ) (r : Refusal) → IsOfTrial n (Err r) → status_of r ≡ status.Limit
trial-limit n refusal.Usage h = absurd h
trial-limit n (refusal.Refused (refused.NotSubset why)) h = absurd h
trial-limit n (refusal.Refused (refused.Flow program trail)) h = absurd h
trial-limit n (refusal.Refused (refused.Limit limit)) h = refl
trial-limit n (refusal.Refused refused.NoMemory) h = absurd h
trial-limit n (refusal.Device name) h = absurd h
trial-limit n (refusal.Fault program fault) h = absurd h
trial-limit n (refusal.Abend abend) h = absurd h
trial-limit n (refusal.Budget steps) h = absurd h
trial-limit n refusal.ReadFault h = absurd h
trial-limit n refusal.NoSecond h = absurd h
trial-limit n (refusal.Second why) h = absurd h
trial-limit n (refusal.SecondDevice name) h = absurd h
trial-limit n (refusal.Differ number) h = absurd h
trial-limit n refusal.WriteFault h = absurd h
trial-limit n refusal.NoMemory h = absurd h

module _ (n : ℕ) (source : SourceCall) (out notes : SinkCall) where
  abbrev TrialStatus : Status → Type 0
  TrialStatus = IsOneOf (status.Done ∷ status.Limit ∷ status.WriteFault ∷ status.NoMemory ∷ [])

  trial-refused : (answer : Status) → IsRefused (Some (Trial n)) source out notes answer → TrialStatus answer
  trial-refused answer h = inr (inl (h.status ∙ trial-limit n h.refusal h.answered.due))

pub trial-comes : TrialComes
trial-comes n source out notes status.Done h = inl refl
trial-comes n source out notes status.Usage h = trial-refused n source out notes status.Usage h
trial-comes n source out notes status.NotSubset h = trial-refused n source out notes status.NotSubset h
trial-comes n source out notes status.Flow h = trial-refused n source out notes status.Flow h
trial-comes n source out notes status.Limit h = trial-refused n source out notes status.Limit h
trial-comes n source out notes status.ReadFault h = absurd (let some = h.fault.asked in omega (arith, some))
trial-comes n source out notes status.WriteFault h = inr (inr (inl refl))
trial-comes n source out notes status.DeviceFault h = absurd h
trial-comes n source out notes status.Abend h = absurd h
trial-comes n source out notes status.Budget h = absurd h
trial-comes n source out notes status.Differ h = absurd h
trial-comes n source out notes status.NoMemory h = inr (inr (inr (inl refl)))

pub all-read : WithinLimitAllIsRead
all-read bytes within = ap Some (drop_of_length-le bytes (let few : length bytes ≤ max_source + 1 = omega (arith, within) in few))
