-- How many ranges a structured program names.
use Rattle.std.specs.Prelude.{◌≤◌, List, length}
use Rattle.cob_base.specs.Limit.{max_ranges}
use Rattle.cob_base.specs.declared.limit.Limit.{Limit}
use Rattle.cob_tree.specs.declared.fault.SplitFault.TheVariants as fault
use Rattle.cob_tree.specs.declared.program.Program.{Program}
use Rattle.cob_tree.specs.declared.program.Range.{Range}
use Rattle.control_flow_theory.specs.language.Control.{control_of}
use Rattle.control_flow_theory.specs.language.Structured.{IsStructuredControl}
use Rattle.program_points.specs.perform_ranges.Named.{AreRangesOf}
use Rattle.pending_returns.specs.Summary.{IsRangeLimitOrNoMemory}

-- a structured program names no more ranges, with main, than it has paragraphs
abbrev pub StructuredProgramsNameFew : Type 0
StructuredProgramsNameFew =
    (program : Program) → IsStructuredControl (control_of program) → (ranges : List Range) →
    AreRangesOf program ranges → length ranges ≤ length program.paragraphs

-- a structured program of no more paragraphs than a text may name ranges doesn't pass that limit
abbrev pub StructuredProgramsPassNoRanges : Type 0
StructuredProgramsPassNoRanges =
    (program : Program) → IsStructuredControl (control_of program) →
    length program.paragraphs ≤ max_ranges →
    (limit : Limit) → IsRangeLimitOrNoMemory program (fault.Limit limit) → ⊥
