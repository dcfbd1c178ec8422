-- What divisions declare with no fault keeps the rules, and is read back where it is printed.
use Rattle.std.specs.Prelude.{ℕ, ◌≡◌, true, List, None}
use Rattle.cob_tree.specs.declared.entry.Entry.{Entry}
use Rattle.cob_tree.specs.declared.place.Place.{Place}
use Rattle.cob_tree.specs.declared.program.Program.{Program}
use Rattle.cobol_grammar.specs.declared.data_forms.draft.Divisions.{Divisions}
use Rattle.cobol_grammar.specs.data_forms.Divisions.{divisions}
use Rattle.parser_combinators.specs.Form.{Form}
use Rattle.grammar_laws.specs.well_scoped.named_data.Drafts.{data_literal}
use Rattle.declaration_checks.specs.Declaring.{declared_of}
use Rattle.round_trip.specs.spelled_forms.Spelling.{Spelled}
use Rattle.round_trip.specs.spelling.data_spelling.Kinds.{divisions_kinds}
use Rattle.round_trip.specs.spelling.data_spelling.Printable.{BeforeProcedures}
use Rattle.round_trip.specs.spelling.data_spelling.Sections.{Fd, IsSorted}
use Rattle.round_trip.specs.declarations.printed_declarations.FileRules.{KeepsRules}

-- drafts of this name that declare exactly the program's files and entries, with no fault
abbrev pub Declares : Program → Divisions → Type 0
Declares program draft =
    (draft.name ≡ program.name)
    × (declared_of draft
    ≡ record { files = program.files; entries = program.entries; fault = None })

-- the files and entries of such a program are in sections so that they keep the rules
abbrev pub DeclaredProgramsKeepRules : Type 0
DeclaredProgramsKeepRules =
    (program : Program) (draft : Divisions) → data_literal draft.data_part ≡ true →
    declared_of draft
    ≡ record { files = program.files; entries = program.entries; fault = None } →
    (fds : List Fd) × (storage : List Entry) × KeepsRules program fds storage

-- the program's entries are in such sections that what is printed before the PROCEDURE DIVISION
-- spells drafts that declare its files and entries again
pub record ReadBack (status : Form Place) (taken : ℕ) (program : Program) : Type 0 where
  pub fds : List Fd
  pub storage : List Entry
  -- the entries are in these sections
  pub sorted : IsSorted fds storage program.entries
  -- what is printed spells such drafts
  pub spelled : Spelled (divisions status) taken (divisions_kinds program fds storage)
      BeforeProcedures (Declares program)
