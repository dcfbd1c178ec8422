-- What holds of programs that can be printed.
use Rattle.cob_tree.specs.declared.program.Program.{Program}
use Rattle.cobol_print.specs.Given.{IsGiven}
use Rattle.round_trip.specs.printable.Whole.{IsPrintableProgram}

-- a text can have their names, numbers and literals
abbrev pub PrintableProgramsAreGiven : Type 0
PrintableProgramsAreGiven = (program : Program) → IsPrintableProgram program → IsGiven program
