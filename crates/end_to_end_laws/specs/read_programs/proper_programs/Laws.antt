-- What holds of programs that are read.
use Rattle.std.specs.Prelude.{ℕ, List}
use Rattle.cob_tree.specs.declared.program.Program.{Program}
use Rattle.cobol_theory.specs.cobol_headline.Alike.{IsProper}
use Rattle.cobol_read.specs.Reading.{Reads}

-- programs that are read are proper: they name their own items and paragraphs, and their entries
-- are as they must be
abbrev pub ProgramsThatAreReadAreProper : Type 0
ProgramsThatAreReadAreProper =
    (bytes : List ℕ) (program : Program) → Reads bytes program → IsProper program
