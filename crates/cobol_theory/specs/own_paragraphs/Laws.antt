-- What holds of named programs.
use Rattle.cob_tree.specs.declared.program.Program.{Program}
use Rattle.cobol_theory.specs.cobol_parts.Named.{NamesOwnParagraphs}
use Rattle.program_facts.specs.well_scoped.Named.{NamesItsOwn}

-- each paragraph that its statements name is there, and each inline loop says how it turns
abbrev pub NamedProgramsNameOwnParagraphs : Type 0
NamedProgramsNameOwnParagraphs = (program : Program) → NamesItsOwn program →
    NamesOwnParagraphs program
