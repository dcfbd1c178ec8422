-- What printed divisions declare.
use Rattle.std.specs.Prelude.{◌≡◌, List, None}
use Rattle.cob_tree.specs.declared.entry.Entry.{Entry}
use Rattle.cob_tree.specs.declared.program.Program.{Program}
use Rattle.cobol_grammar.specs.declared.data_forms.draft.Divisions.{Divisions}
use Rattle.declaration_checks.specs.Declaring.{declared_of}
use Rattle.round_trip.specs.spelling.data_spelling.Drafts.{AreDivisions}
use Rattle.round_trip.specs.spelling.data_spelling.Sections.{Fd}
use Rattle.round_trip.specs.declarations.printed_declarations.FileRules.{KeepsRules}

-- exactly the program's files and entries, with no fault
abbrev pub PrintedDivisionsDeclare : Type 0
PrintedDivisionsDeclare =
    (program : Program) (fds : List Fd) (storage : List Entry) (draft : Divisions) →
    KeepsRules program fds storage → AreDivisions program fds storage draft →
    declared_of draft
    ≡ record { files = program.files; entries = program.entries; fault = None }
