-- How the loops of COBOL programs turn.
use Rattle.std.specs.Prelude.{ℕ, List}
use Rattle.cob_tree.specs.declared.file.FileEntry.{FileEntry}
use Rattle.cob_tree.specs.declared.program.Program.{Program}
use Rattle.control_flow_theory.specs.language.Control.{control_of}
use Rattle.program_facts.specs.completion.FlowFacts.{flow_facts_of}
use Rattle.fixed_point.specs.Tops.{ParagraphsAct}

-- what sets and steps each VARYING of a program does something: it is MOVE, and ADD
abbrev pub VaryingActs : Type 0
VaryingActs = (files : List FileEntry) (returning : List (List ℕ)) (program : Program) →
    ParagraphsAct (flow_facts_of files returning) (control_of program).paragraphs
