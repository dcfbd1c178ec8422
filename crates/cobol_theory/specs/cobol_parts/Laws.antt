-- Laws of the parts of COBOL programs.
use Rattle.std.specs.Prelude.{ℕ, List}
use Rattle.meanings.specs.statements.Filing.{Declared}
use Rattle.cob_tree.specs.declared.program.Program.{Program}
use Rattle.control_flow_theory.specs.language.Control.{control_of}
use Rattle.control_flow_theory.specs.language.OwnItems.{NamesOwnItems}
use Rattle.control_flow_theory.specs.lowering.FlowFacts.{IsTold, IsSource}
use Rattle.control_flow_theory.specs.main_theorem.CallsReached.{GivesSome}
use Rattle.cobol_theory.specs.cobol_meaning.Acting.{acting}
use Rattle.program_facts.specs.completion.FlowFacts.{flow_facts_of}
use Rattle.cobol_theory.specs.cobol_parts.Named.{NamesOwnParagraphs}

-- the parts of a COBOL program do what lowering knows of them, whatever is declared, and whichever
-- ranges return
abbrev pub CobolPartsDoWhatIsTold : Type 0
CobolPartsDoWhatIsTold =
    (declared : Declared) (returning : List (List ℕ)) →
    IsTold (flow_facts_of declared.files returning) (acting declared)

-- no choice is without an arm that it may give
abbrev pub CobolChoosersGiveSomeArm : Type 0
CobolChoosersGiveSomeArm =
    (declared : Declared) (returning : List (List ℕ)) →
    GivesSome (flow_facts_of declared.files returning)

-- a program that names its own items and paragraphs is a source, as lowering takes one
abbrev pub CobolProgramsAreSources : Type 0
CobolProgramsAreSources =
    (declared : Declared) (returning : List (List ℕ)) (program : Program) →
    NamesOwnItems program → NamesOwnParagraphs program →
    IsSource (flow_facts_of declared.files returning) (control_of program)
