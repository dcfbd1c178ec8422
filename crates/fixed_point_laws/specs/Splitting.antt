-- What a program is split into is split into itself.
use Rattle.std.specs.Prelude.{◌≡◌}
use Rattle.cob_tree.specs.declared.program.Program.{Program}
use Rattle.control_flow_theory.specs.language.Control.{control_of}
use Rattle.program_points.specs.numbering.Kind.{never_first_of}
use Rattle.pending_returns.specs.Summary.{IsSummary}
use Rattle.pending_returns.specs.declared.facts.Summary.{Summary}
use Rattle.procedure_split.specs.Counting.{none_added}
use Rattle.procedure_split.specs.Splitting.{IsSplit, IsSplitWith}
use Rattle.procedure_split.specs.declared.writing.Split.{Split}
use Rattle.procedure_split.specs.split_behaviour.Alike.{IsWellMade}
use Rattle.pending_returns.specs.FaultFree.{IsFaultFree}

-- the control of what it is split into again is its own
abbrev pub SplitsKeepControl : Type 0
SplitsKeepControl =
    (program made again : Program) (summary other : Summary) → IsWellMade program →
    IsFaultFree program summary → IsSplit program summary made → IsWellMade made →
    IsSummary (never_first_of made.files) (control_of made) other → IsSplit made other again →
    control_of again ≡ control_of made

-- what a result is split into is that very program, and nothing is added
abbrev pub SplitsComeAgain : Type 0
SplitsComeAgain =
    (program made : Program) (summary other : Summary) (again : Split) → IsWellMade program →
    IsFaultFree program summary → IsSplit program summary made → IsWellMade made →
    IsSummary (never_first_of made.files) (control_of made) other → IsSplitWith made other again →
    (again.program ≡ made) × (again.added ≡ none_added)
