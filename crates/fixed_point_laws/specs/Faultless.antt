-- No flow path of a structured program comes to a fault.
use Rattle.cob_tree.specs.declared.program.Program.{Program}
use Rattle.control_flow_theory.specs.language.Control.{control_of}
use Rattle.control_flow_theory.specs.language.OwnItems.{NamesOwnItems}
use Rattle.control_flow_theory.specs.language.Structured.{IsStructuredControl}
use Rattle.cobol_theory.specs.cobol_parts.Named.{NamesOwnParagraphs}
use Rattle.program_points.specs.numbering.Kind.{never_first_of}
use Rattle.program_points.specs.paths.Flow.{IsFaulty}

-- no flow path of a structured program comes to a fault, whatever its data, and whichever of its
-- files have a status item
abbrev pub StructuredProgramsAreFaultless : Type 0
StructuredProgramsAreFaultless =
    (program : Program) → NamesOwnItems program → NamesOwnParagraphs program →
    IsStructuredControl (control_of program) →
    IsFaulty (never_first_of program.files) (control_of program) → ⊥
