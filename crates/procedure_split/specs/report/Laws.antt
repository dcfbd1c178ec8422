-- What is stated of reports.
use Rattle.std.specs.Prelude.{ℕ, ◌≡◌, List, [], ◌∷◌, ◌++◌, Some, None, codes}
use Rattle.cob_base.specs.Bytes.{line_feed}
use Rattle.cob_tree.specs.declared.program.Program.{Program}
use Rattle.pending_returns.specs.declared.facts.Summary.{Summary}
use Rattle.procedure_split.specs.report.Lines.{report_text}
use Rattle.procedure_split.specs.report.Report.{IsSummaryOf, IsReportOf}
use Rattle.procedure_split.specs.declared.report.report.AddedCounts.{AddedCounts}
use Rattle.procedure_split.specs.declared.report.report.Report.{Report}

-- a program to which so many items are added has one report, by whichever summary of its flow
abbrev pub ProgramsHaveOneReport : Type 0
ProgramsHaveOneReport =
    (program : Program) (summary other : Summary) (added : AddedCounts) (one another : Report) →
    IsSummaryOf program summary → IsSummaryOf program other →
    IsReportOf program summary added one → IsReportOf program other added another →
    one ≡ another

-- the report of a program HELLO of five paragraphs: one named B is dropped, and one without a
-- label
abbrev pub hello_report : Report
hello_report = record {
  name = codes "HELLO";
  paragraphs = 5;
  ranges = 3;
  dropped = Some (codes "B") ∷ None ∷ [];
  never = 0;
  flags = 1;
  counts = 2;
  states = 0;
  exits = 4;
}

-- the lines, each with a line feed
abbrev pub ended : List (List ℕ) → List ℕ
ended [] = []
ended (line ∷ lines) = line ++ line_feed ∷ ended lines

-- the report of HELLO has these lines
abbrev pub HelloIsTold : Type 0
HelloIsTold = report_text hello_report
    ≡ ended (codes "PROGRAM HELLO"
    ∷ codes "PARAGRAPHS 5"
    ∷ codes "RANGES 3"
    ∷ codes "UNREACHABLE 2"
    ∷ codes "DROPPED B"
    ∷ codes "DROPPED *"
    ∷ codes "NEVER 0"
    ∷ codes "FLAGS 1"
    ∷ codes "COUNTS 2"
    ∷ codes "STATES 0"
    ∷ codes "EXITS 4"
    ∷ [])
