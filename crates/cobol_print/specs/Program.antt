-- What is printed of a program.
use Rattle.std.specs.Prelude.{ℕ, List}
use Rattle.cob_tree.specs.declared.program.Program.{Program}
use Rattle.cobol_print.specs.units.Division.{program_units}
use Rattle.cobol_print.specs.Line.{lines_of, bytes_of_lines}

-- a program as bytes: its units, as lines
abbrev pub printed : Program → List ℕ
printed program = bytes_of_lines (lines_of (program_units program))
