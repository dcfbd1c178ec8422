-- What holds of programs that are read.
use Rattle.std.specs.Prelude.{ℕ, ◌≡◌, true, List}
use Rattle.cob_tree.specs.declared.program.Program.{Program}
use Rattle.cobol_read.specs.Reading.{Reads}
use Rattle.program_facts.specs.whole_counts.Whole.{counts_whole}

-- programs that are read count by whole numbers
abbrev pub ProgramsThatAreReadCountWhole : Type 0
ProgramsThatAreReadCountWhole =
    (bytes : List ℕ) (program : Program) → Reads bytes program → counts_whole program ≡ true
