-- What holds of results.
use Rattle.std.specs.Prelude.{ℕ, ◌≡◌, List, None}
use Rattle.cob_tree.specs.declared.program.Program.{Program}
use Rattle.cobol_print.specs.Program.{printed}
use Rattle.cobol_read.specs.Reading.{Reads}
use Rattle.procedure_split.specs.declared.writing.Split.{Split}
use Rattle.restructure_core.specs.Limit.{result_limit}
use Rattle.restructure_core.specs.Made.{IsMadeOf}

-- what is printed of the result of a program that is read is read as that very result
abbrev pub ResultsReadBack : Type 0
ResultsReadBack =
    (bytes : List ℕ) (program : Program) (made : Split) → Reads bytes program →
    IsMadeOf program made → result_limit made.program ≡ None →
    Reads (printed made.program) made.program
