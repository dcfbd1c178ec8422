-- The fixed point: what a program that is read is split into isn't faulty, passes no limit, and is
-- split into itself.
use Rattle.std.specs.Prelude.{ℕ, ◌≡◌, ◌≤◌, List, length}
use Rattle.cob_base.specs.Limit.{max_ranges}
use Rattle.cob_base.specs.declared.limit.Limit.{Limit}
use Rattle.cob_tree.specs.declared.fault.SplitFault.TheVariants as fault
use Rattle.cob_tree.specs.declared.program.Program.{Program}
use Rattle.control_flow_theory.specs.language.Control.{control_of}
use Rattle.cobol_print.specs.Program.{printed}
use Rattle.cobol_read.specs.Reading.{Reads}
use Rattle.program_points.specs.numbering.Kind.{never_first_of}
use Rattle.program_points.specs.paths.Flow.{IsFaulty}
use Rattle.pending_returns.specs.Summary.{IsRangeLimitOrNoMemory, IsSummary}
use Rattle.pending_returns.specs.declared.facts.Summary.{Summary}
use Rattle.procedure_split.specs.Counting.{none_added}
use Rattle.procedure_split.specs.Splitting.{IsSplit, IsSplitFault, IsSplitWith}
use Rattle.procedure_split.specs.declared.writing.Split.{Split}
use Rattle.pending_returns.specs.FaultFree.{IsFaultFree}
use Rattle.end_to_end_laws.specs.results.readable_results.Laws.{IsWithinLimits}

-- the program is split into itself, and its text is read as it
pub record IsFixed (made : Program) : Type 0 where
  -- its text is read back as it
  pub read_back : Reads (printed made) made
  -- no flow path comes to a fault
  pub faultless : IsFaulty (never_first_of made.files) (control_of made) → ⊥
  -- it passes no limit on the ranges that it names
  pub ranges : (limit : Limit) → IsRangeLimitOrNoMemory made (fault.Limit limit) → ⊥
  -- it passes no limit where it is split: on labels and statements, or on nesting
  pub within : (summary : Summary) (limit : Limit) →
      IsSummary (never_first_of made.files) (control_of made) summary →
      IsSplitFault made summary (fault.Limit limit) → ⊥
  -- whatever it is split into is it, with nothing added
  pub again : (summary : Summary) (split : Split) →
      IsSummary (never_first_of made.files) (control_of made) summary →
      IsSplitWith made summary split → (split.program ≡ made) × (split.added ≡ none_added)

-- the result of each program that is read and passes no limit is fixed so
abbrev pub ResultsAreFixed : Type 0
ResultsAreFixed =
    (bytes : List ℕ) (program made : Program) (summary : Summary) → Reads bytes program →
    IsFaultFree program summary → length summary.ranges ≤ max_ranges →
    IsSplit program summary made → IsWithinLimits made → IsFixed made
