-- What holds of programs that are read.
use Rattle.std.specs.Prelude.{ℕ, ◌≡◌, true, List}
use Rattle.cob_tree.specs.declared.program.Program.{Program}
use Rattle.cobol_read.specs.Reading.{Reads}
use Rattle.cobol_theory.specs.fit_programs.Fit.{names_few}

-- each GO TO DEPENDING names fewer paragraphs than 18 digits count
abbrev pub ProgramsThatAreReadNameFew : Type 0
ProgramsThatAreReadNameFew =
    (bytes : List ℕ) (program : Program) → Reads bytes program → names_few program ≡ true
