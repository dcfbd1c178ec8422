-- What holds of programs that are read.
use Rattle.std.specs.Prelude.{ℕ, List}
use Rattle.cob_tree.specs.declared.program.Program.{Program}
use Rattle.cobol_read.specs.Reading.{Reads}
use Rattle.control_flow_theory.specs.language.OwnItems.{NamesOwnItems}
use Rattle.end_to_end_laws.specs.read_programs.named_reading.Named.{IsNamed}

-- what they name is there, and each item is their own
abbrev pub ProgramsThatAreReadAreNamed : Type 0
ProgramsThatAreReadAreNamed =
    (bytes : List ℕ) (program : Program) → Reads bytes program →
    IsNamed program × NamesOwnItems program
