-- What is printed of readable programs.
use Rattle.cob_tree.specs.declared.program.Program.{Program}
use Rattle.cobol_print.specs.Program.{printed}
use Rattle.cobol_read.specs.Reading.{Reads}
use Rattle.end_to_end_laws.specs.read_programs.readable_programs.Readable.{IsReadable}

-- what is printed of a readable program is read as that very program
abbrev pub ReadableProgramsReadBack : Type 0
ReadableProgramsReadBack =
    (program : Program) → IsReadable program → Reads (printed program) program
