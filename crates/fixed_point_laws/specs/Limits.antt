-- Splitting a result passes no limit.
use Rattle.std.specs.Prelude.{◌≤◌, length}
use Rattle.cob_base.specs.declared.limit.Limit.{Limit}
use Rattle.cob_tree.specs.declared.fault.SplitFault.TheVariants as fault
use Rattle.cob_tree.specs.declared.program.Program.{Program}
use Rattle.control_flow_theory.specs.language.Control.{control_of}
use Rattle.cobol_print.specs.Unit.{all_tokens}
use Rattle.cobol_print.specs.units.Division.{program_units}
use Rattle.program_points.specs.numbering.Kind.{never_first_of}
use Rattle.pending_returns.specs.Summary.{IsSummary}
use Rattle.pending_returns.specs.declared.facts.Summary.{Summary}
use Rattle.procedure_split.specs.Splitting.{IsSplit, IsSplitFault}
use Rattle.cob_base.specs.Limit.{max_nodes}
use Rattle.procedure_split.specs.split_behaviour.Alike.{IsWellMade}
use Rattle.pending_returns.specs.FaultFree.{IsFaultFree}

-- where it is printed as no more tokens than there may be labels and statements, what a program is
-- split into isn't too large to be split, nor does it nest too deep
abbrev pub SplitsPassNoLimit : Type 0
SplitsPassNoLimit =
    (program made : Program) (summary other : Summary) (limit : Limit) → IsWellMade program →
    IsFaultFree program summary → IsSplit program summary made → IsWellMade made →
    IsSummary (never_first_of made.files) (control_of made) other →
    length (all_tokens (program_units made)) ≤ max_nodes →
    IsSplitFault made other (fault.Limit limit) → ⊥
