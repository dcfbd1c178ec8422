-- The answer that is due to an ask and the bytes of a source, whatever the outside does.
use Rattle.std.specs.Prelude.{ℕ, ◌≡◌, ◌≢◌, ◌⊎◌, List, Option, Some, None, Result, Ok, Err}
use Rattle.cob_base.specs.Source.{SourceCall}
use Rattle.program_gen.specs.Generated.{generated}
use Rattle.cobol_print.specs.Program.{printed}
use Rattle.cobol_read.specs.Reading.{Reads}
use Rattle.procedure_split.specs.declared.report.report.Report as reports
use Rattle.procedure_split.specs.report.Lines.{report_text}
use Rattle.restructure_core.specs.declared.fault.Refused.TheVariants as refused
use Rattle.restructure_core.specs.declared.pipeline.Done.{Done}
use Rattle.restructure_core.specs.Pipeline.{IsRestructured, IsReported, IsPastLimit, HasCause}
use Rattle.restructure_asks.specs.declared.ask.Ask.{Ask}
use Rattle.restructure_asks.specs.declared.ask.Ask.TheVariants.{Restructure, Report, Check, Run, Compare, Generate, Trial}
use Rattle.restructure_asks.specs.declared.texts.Texts.{Texts}
use Rattle.restructure_asks.specs.declared.refusal.Refusal.{Refusal}
use Rattle.restructure_asks.specs.declared.refusal.Refusal.TheVariants as refusal
use Rattle.restructure_asks.specs.Ask.{reads}
use Rattle.restructure_asks.specs.Texts.{text_alone, with_report}
use Rattle.restructure_asks.specs.Reading.{Tells, left_after, IsReadWithin, IsReadFault}

-- what is written, or a refusal
abbrev pub Answer : Type 0
Answer = Result Texts Refusal

-- no ask: USAGE, whatever the bytes
abbrev pub IsUnasked : Answer → Type 0
IsUnasked (Err refusal.Usage) = Unit {0}
IsUnasked _ = ⊥

-- the refusal whose cause the bytes have
abbrev pub IsRefusalOf : List ℕ → Refusal → Type 0
IsRefusalOf bytes (refusal.Refused why) = (why ≢ refused.NoMemory) × HasCause bytes why
IsRefusalOf bytes _ = ⊥

-- the text that these bytes are restructured to
abbrev pub IsResult : List ℕ → Texts → Type 0
IsResult bytes texts =
    (done : Done) × IsRestructured bytes done × (texts ≡ text_alone done.text)

-- the text of the result, and the lines of its report after it
abbrev pub IsResultAndReport : List ℕ → Texts → Type 0
IsResultAndReport bytes texts = (done : Done) × IsRestructured bytes done
    × (texts ≡ with_report done.text (report_text done.report))

-- the lines of the report alone
abbrev pub IsReport : List ℕ → Texts → Type 0
IsReport bytes texts = (report : reports.Report) × IsReported bytes report
    × (texts ≡ text_alone (report_text report))

-- the answer is due where these bytes are restructured
abbrev pub IsOfRestructure : List ℕ → Answer → Type 0
IsOfRestructure bytes (Ok texts) = IsResult bytes texts
IsOfRestructure bytes (Err refusal) = IsRefusalOf bytes refusal

-- the answer is due where these bytes are restructured with a report
abbrev pub IsOfReport : List ℕ → Answer → Type 0
IsOfReport bytes (Ok texts) = IsResultAndReport bytes texts
IsOfReport bytes (Err refusal) = IsRefusalOf bytes refusal

-- the answer is due where these bytes are checked
abbrev pub IsOfCheck : List ℕ → Answer → Type 0
IsOfCheck bytes (Ok texts) = IsReport bytes texts
IsOfCheck bytes (Err refusal) = IsRefusalOf bytes refusal

-- what is written of the generated program of a number
abbrev pub program_text : ℕ → List ℕ
program_text n = printed (generated n)

-- the text of the generated program of a number, which reads to that very program
pub record IsGenerated (n : ℕ) (texts : Texts) : Type 0 where
  -- it is what is written of the program
  pub is : texts ≡ text_alone (program_text n)
  -- it reads to that very program
  pub read_back : Reads texts.text (generated n)

-- the answer is due where the program of this number is generated: its text, and never a refusal
abbrev pub IsOfGenerate : ℕ → Answer → Type 0
IsOfGenerate n (Ok texts) = IsGenerated n texts
IsOfGenerate n (Err refusal) = ⊥

-- the answer is due where the program of this number is tried: the report of its text; it is
-- refused only where it passes a limit of restructuring
abbrev pub IsOfTrial : ℕ → Answer → Type 0
IsOfTrial n (Ok texts) = IsReport (program_text n) texts
IsOfTrial n (Err (refusal.Refused (refused.Limit limit))) = IsPastLimit (program_text n) limit
IsOfTrial n (Err refusal) = ⊥

-- what is due to each ask for a text. What is due to run a source, specs/Running.antt says, and to
-- compare two, specs/Comparing.antt.
abbrev pub IsDue : Option Ask → List ℕ → Answer → Type 0
IsDue None bytes answer = IsUnasked answer
IsDue (Some Restructure) bytes answer = IsOfRestructure bytes answer
IsDue (Some Report) bytes answer = IsOfReport bytes answer
IsDue (Some Check) bytes answer = IsOfCheck bytes answer
IsDue (Some (Run steps)) bytes answer = ⊥
IsDue (Some (Compare steps)) bytes answer = ⊥
IsDue (Some (Generate n)) bytes answer = IsOfGenerate n answer
IsDue (Some (Trial n)) bytes answer = IsOfTrial n answer

-- what is made for the ask: what is due to it, unless memory runs out
abbrev pub IsMadeFor : Option Ask → List ℕ → Answer → Type 0
IsMadeFor ask bytes answer = IsDue ask bytes answer ⊎ (answer ≡ Err refusal.NoMemory)

-- the answer is due to the ask and the bytes of the source, which was read as far as the ask reads
pub record IsAnswered (ask : Option Ask) (source : SourceCall) (answer : Answer) : Type 0 where
  pub bytes : List ℕ
  -- these are the bytes, where the source tells them
  pub told : Tells source.told bytes
  -- the answer is due to them
  pub due : IsDue ask bytes answer
  -- the source was read as far as the ask reads
  pub left : source.left ≡ left_after (reads ask) source.told

-- the answer that is due is given, unless the source fails or memory runs out
abbrev pub Gives : Option Ask → SourceCall → Answer → Type 0
Gives ask source (Ok texts) = IsAnswered ask source (Ok texts)
Gives ask source (Err refusal.Usage) = IsAnswered ask source (Err refusal.Usage)
Gives ask source (Err (refusal.Refused why)) = IsAnswered ask source (Err (refusal.Refused why))
Gives ask source (Err refusal.ReadFault) = IsReadFault (reads ask) source
Gives ask source (Err refusal.NoMemory) = IsReadWithin (reads ask) source
Gives ask source (Err _) = ⊥
