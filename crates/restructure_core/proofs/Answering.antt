-- What the answer to a program tells of the bytes.
use Rattle.std.proofs.Common.{◌≡◌, ◌≢◌, ℕ, List, Result, Ok, Err, refl, sym, subst, inl, inr}
use Rattle.std.specs.Prelude.{IfOk}
use Rattle.cob_tree.specs.declared.fault.SplitFault.{SplitFault}
use Rattle.cob_tree.specs.declared.fault.SplitFault.TheVariants as split
use Rattle.cob_tree.specs.declared.program.Program.{Program}
use Rattle.program_points.specs.declared.paths.trail.Trail.{Trail}
use Rattle.pending_returns.specs.declared.facts.Summary.{Summary}
use Rattle.procedure_split.specs.declared.writing.Split.{Split}
use Rattle.procedure_split.specs.Splitting.{IsSplitFault, IsSplitWith}
use Rattle.procedure_split.specs.report.Report.{IsReportOf}
use Rattle.procedure_split.specs.declared.report.report.Report.{Report}
use Rattle.cobol_read.specs.declared.refusal.ReadRefusal.{ReadRefusal}
use Rattle.cobol_read.specs.declared.refusal.ReadRefusal.TheVariants as read
use Rattle.cobol_read.specs.Reading as reading
use Rattle.cobol_read.specs.Reading.{Reads}
use Rattle.restructure_core.specs.declared.fault.Refused.{Refused}
use Rattle.restructure_core.specs.declared.fault.Refused.TheVariants as refused
use Rattle.restructure_core.specs.declared.pipeline.Done.{Done}
use Rattle.restructure_core.specs.Fault.{of_read_refusal, of_split_fault}
use Rattle.restructure_core.specs.Flow.{IsFaultyBy, IsFlowRefusal}
use Rattle.restructure_core.specs.Made.{IsClear, IsMadeOf}
use Rattle.restructure_core.specs.Pipeline.{IsResultOf, IsPrinted, IsRestructured, IsReported, IsAnswerTo, HasCause}
use Rattle.restructure_core.specs.Results.{ResultsReadBack}
use Rattle.restructure_core.proofs.Behaving.{made-behaves, made-structured}

-- what is printed of the program that it is split into answers, with the report
module _ (program : Program) (summary : Summary) (made : Split) (clear : IsClear program summary)
    (split : IsSplitWith program summary made) where
  abbrev made-of : IsMadeOf program made
  made-of = record { summary = summary; clear = clear; split = split }

  pub split_answer : (text : List ℕ) (report : Report) → IsPrinted made.program (Ok text) →
      IsReportOf program summary made.added report →
      IsAnswerTo program (Ok (record { text = text; report = report }))
  split_answer text report h reported = record {
    made = made;
    is = made-of;
    within = h.1;
    written = h.0;
    reported = reported;
  }

  pub past_answer : (why : Refused) → IsPrinted made.program (Err why) →
      IsAnswerTo program (Err why)
  past_answer (refused.NotSubset refusal) h = absurd h
  past_answer (refused.Flow other trail) h = absurd h
  past_answer (refused.Limit limit) h = inr (record { made = made; is = made-of; past = h })
  past_answer refused.NoMemory h = tt

unsplit : (program : Program) (summary : Summary) (fault : SplitFault) → IsClear program summary →
    IsSplitFault program summary fault → IsAnswerTo program (Err (of_split_fault fault))
unsplit program summary (split.Limit limit) clear h =
    inl (record { summary = summary; clear = clear; past = h })
unsplit program summary split.NoMemory clear h = tt

pub unsplit_answer : (program : Program) (summary : Summary) (fault : SplitFault) (why : Refused) →
    IsClear program summary → IsSplitFault program summary fault → why ≡ of_split_fault fault →
    IsAnswerTo program (Err why)
unsplit_answer program summary fault why clear h is =
    subst (λ w. IsAnswerTo program (Err w)) (sym is) (unsplit program summary fault clear h)

-- the result of a program is what its source is restructured to
pub restructured : ResultsReadBack → (bytes : List ℕ) (program : Program) (done : Done) →
    Reads bytes program → IsResultOf program done → IsRestructured bytes done
restructured read_back bytes program done reads it = record {
  program = program;
  reads = reads;
  result = it;
  structured = made-structured bytes program it.made reads it.is;
  same = made-behaves bytes program it.made reads it.is;
  read_back =
      subst (λ text. Reads text it.made.program) (sym it.written)
      (read_back bytes program it.made reads it.is it.within);
}

pub restructured_if : ResultsReadBack → (bytes : List ℕ) (program : Program)
    (outcome : Result Done Refused) → Reads bytes program → IsAnswerTo program outcome →
    IfOk outcome (IsRestructured bytes)
restructured_if read_back bytes program (Ok done) reads h =
    restructured read_back bytes program done reads h
restructured_if read_back bytes program (Err why) reads h = tt

-- and so is its report
pub reported : (bytes text : List ℕ) (report : Report) →
    IsRestructured bytes (record { text = text; report = report }) → IsReported bytes report
reported bytes text report h = (text, h)

-- what a program is refused for is a cause of its source
pub refused_later : (bytes : List ℕ) (program : Program) (why : Refused) → Reads bytes program →
    IsAnswerTo program (Err why) → HasCause bytes why
refused_later bytes program (refused.NotSubset refusal) reads h = absurd h
refused_later bytes program (refused.Flow other trail) reads h = absurd h
refused_later bytes program (refused.Limit limit) reads h =
    inr (inr (record { program = program; reads = reads; passes = h }))
refused_later bytes program refused.NoMemory reads h = tt

pub refused_flow : (bytes : List ℕ) (program : Program) (why : Refused) → Reads bytes program →
    IsFlowRefusal program why → HasCause bytes why
refused_flow bytes program (refused.NotSubset refusal) reads h = absurd h
refused_flow bytes program (refused.Flow other trail) reads h = absurd h
refused_flow bytes program (refused.Limit limit) reads h =
    inr (inl (record { program = program; reads = reads; past = h }))
refused_flow bytes program refused.NoMemory reads h = tt

pub refused_by_trail : (bytes : List ℕ) (program : Program) (trail : Trail) →
    Reads bytes program → IsFaultyBy program trail → HasCause bytes (refused.Flow program trail)
refused_by_trail bytes program trail reads h = record { reads = reads; faulty = h }

unread : (bytes : List ℕ) (why : ReadRefusal) → why ≢ read.NoMemory → reading.HasCause bytes why →
    HasCause bytes (of_read_refusal why)
unread bytes read.NoMemory some h = tt
unread bytes (read.Limit limit) some h =
    inl (record { why = read.Limit limit; some = some; cause = h; is = refl })
unread bytes (read.Fault fault) some h =
    record { why = read.Fault fault; some = some; cause = h; is = refl }

of-unread : (bytes : List ℕ) (why : ReadRefusal) → reading.HasCause bytes why →
    HasCause bytes (of_read_refusal why)
of-unread bytes read.NoMemory h = tt
of-unread bytes (read.Limit limit) h = unread bytes (read.Limit limit) (λ e. cc) h
of-unread bytes (read.Fault fault) h = unread bytes (read.Fault fault) (λ e. cc) h

pub refused_unread : (bytes : List ℕ) (why : ReadRefusal) (refusal : Refused) →
    refusal ≡ of_read_refusal why → reading.HasCause bytes why → HasCause bytes refusal
refused_unread bytes why refusal is h =
    subst (HasCause bytes) (sym is) (of-unread bytes why h)

-- lemmas that are named together
pub ruleset refusals_answer = (refused_unread, refused_flow, refused_by_trail, refused_later)

pub ruleset splits_answer = (split_answer, past_answer, unsplit_answer)
