-- What holds of programs that are read.
use Rattle.std.specs.Prelude.{ℕ, ◌≡◌, true, List}
use Rattle.cob_tree.specs.declared.program.Program.{Program}
use Rattle.cobol_read.specs.Reading.{Reads}
use Rattle.grammar_laws.specs.short_lists.lone_exits.Alone.{exits_alone}

-- EXIT without a further word is alone in its sentence
abbrev pub ProgramsThatAreReadExitAlone : Type 0
ProgramsThatAreReadExitAlone =
    (bytes : List ℕ) (program : Program) → Reads bytes program → exits_alone program ≡ true
