-- What is printed before the PROCEDURE DIVISION.
use Rattle.std.specs.Prelude.{◌≡◌, ◌++◌, List}
use Rattle.cob_tree.specs.declared.entry.Entry.{Entry}
use Rattle.cob_tree.specs.declared.program.Program.{Program}
use Rattle.cobol_print.specs.units.Division.{procedure_units, program_units}
use Rattle.cobol_print.specs.Unit.{all_tokens}
use Rattle.round_trip.specs.spelling.data_spelling.Kinds.{divisions_kinds}
use Rattle.round_trip.specs.spelling.data_spelling.Sections.{Fd, IsSorted}

-- the tokens of these divisions come before those of the PROCEDURE DIVISION
abbrev pub DivisionsHaveTokens : Type 0
DivisionsHaveTokens =
    (program : Program) (fds : List Fd) (storage : List Entry) →
    IsSorted fds storage program.entries →
    all_tokens (program_units program)
    ≡ divisions_kinds program fds storage
    ++ all_tokens (procedure_units program program.paragraphs)
