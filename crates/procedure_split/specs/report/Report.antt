-- What the report of a restructured program tells.
use Rattle.std.specs.Prelude.{ℕ, ◌≡◌, List, map, length, Option}
use Rattle.cob_tree.specs.declared.program.Program.{Program}
use Rattle.control_flow_theory.specs.language.Control.{control_of}
use Rattle.out_names.specs.Naming.{paragraph_label}
use Rattle.program_points.specs.numbering.Kind.{never_first_of}
use Rattle.pending_returns.specs.declared.facts.Summary.{Summary}
use Rattle.pending_returns.specs.Summary.{IsSummary}
use Rattle.dead_paragraphs.specs.Dead.{AreDropped}
use Rattle.procedure_split.specs.declared.report.report.AddedCounts.{AddedCounts}
use Rattle.procedure_split.specs.declared.report.report.Report.{Report}

-- what control can do in the program, whatever the data
abbrev pub IsSummaryOf : Program → Summary → Type 0
IsSummaryOf program summary =
    IsSummary (never_first_of program.files) (control_of program) summary

-- the numbers of the paragraphs to which no flow path comes, rising
abbrev pub AreDroppedOf : Program → List ℕ → Type 0
AreDroppedOf program numbers =
    AreDropped (never_first_of program.files) (control_of program) numbers

-- these are the labels of the paragraphs that are dropped, in this order
abbrev pub AreLabelsOfDropped : Program → List (Option (List ℕ)) → Type 0
AreLabelsOfDropped program labels = (numbers : List ℕ) × AreDroppedOf program numbers
    × (labels ≡ map (paragraph_label program.paragraphs) numbers)

-- the report tells the program's name; how many paragraphs it has, and ranges that some flow path
-- performs, main included; the paragraphs that are dropped; and how many items of each kind are
-- added
pub record IsReportOf (program : Program) (summary : Summary) (added : AddedCounts)
    (report : Report) : Type 0 where
  pub name : report.name ≡ program.name
  pub paragraphs : report.paragraphs ≡ length program.paragraphs
  pub ranges : report.ranges ≡ length summary.ranges
  pub dropped : AreLabelsOfDropped program report.dropped
  pub never : report.never ≡ added.never
  pub flags : report.flags ≡ added.flags
  pub counts : report.counts ≡ added.counts
  pub states : report.states ≡ added.states
  pub exits : report.exits ≡ added.exits
