-- What holds of programs that are read.
use Rattle.std.specs.Prelude.{ℕ, List}
use Rattle.cob_tree.specs.declared.program.Program.{Program}
use Rattle.cobol_read.specs.Reading.{Reads}
use Rattle.round_trip.specs.printable.Whole.{IsPrintableProgram}

-- programs that are read can be printed
abbrev pub ProgramsThatAreReadCanBePrinted : Type 0
ProgramsThatAreReadCanBePrinted =
    (bytes : List ℕ) (program : Program) → Reads bytes program → IsPrintableProgram program
