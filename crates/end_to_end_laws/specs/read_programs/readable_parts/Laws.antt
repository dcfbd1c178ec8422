-- What holds of names and declarations that are read.
use Rattle.std.specs.Prelude.{ℕ, List, Some}
use Rattle.cob_tree.specs.declared.entry.Entry.{Entry}
use Rattle.cob_tree.specs.declared.program.Program.{Program}
use Rattle.cobol_read.specs.Reading.{Reads}
use Rattle.cobol_read.specs.Status.{status}
use Rattle.round_trip.specs.fitting_statements.own_fits.Own.{own_names}
use Rattle.round_trip.specs.spelling.data_spelling.Printable.{SpellsStatus}
use Rattle.round_trip.specs.spelling.data_spelling.Sections.{Fd}
use Rattle.round_trip.specs.declarations.Named.{IsTitled, AreStated}
use Rattle.grammar_laws.specs.form_results.Giving.{Gives}
use Rattle.round_trip.specs.printable.printable_tokens.Printable.{IsPrintable}
use Rattle.round_trip.specs.declarations.printed_declarations.FileRules.{KeepsRules}
use Rattle.cobol_grammar.specs.Name.{file, record_name}
use Rattle.end_to_end_laws.specs.read_programs.readable_parts.Read.{EachStatus, IsFitFile, IsFitRecord, IsFitStatus, ReferencesAreFit}

-- the names of a program's files and records, and its status items, are spelled again where no
-- fault is noted
pub record AreReadable (program : Program) : Type 0 where
  -- the name of a file gives one that is spelled again
  pub file : Gives IsPrintable (file (own_names program)) (IsFitFile (own_names program) program)
  -- the name of a record gives one that is spelled again
  pub entry : Gives IsPrintable (record_name (own_names program) program.entries)
      (IsFitRecord (own_names program) program)
  -- a status item is spelled again
  pub status : ReferencesAreFit (own_names program) program →
      Gives IsPrintable (status (own_names program) program.entries)
      (λ place. SpellsStatus (status (own_names program) program.entries) program (Some place))

-- the names of each program are readable so
abbrev pub NamesAreReadable : Type 0
NamesAreReadable = (program : Program) → AreReadable program

-- the names of programs that are read may be names, and their values are literals
abbrev pub ProgramsThatAreReadAreTitled : Type 0
ProgramsThatAreReadAreTitled =
    (bytes : List ℕ) (program : Program) → Reads bytes program → IsTitled program

-- the files and entries of programs that are read keep the rules, in some sections
abbrev pub ProgramsThatAreReadKeepRules : Type 0
ProgramsThatAreReadKeepRules =
    (bytes : List ℕ) (program : Program) → Reads bytes program →
    (fds : List Fd) × (storage : List Entry) × KeepsRules program fds storage

-- those of its own files
abbrev pub HasFitStatuses : Program → Type 0
HasFitStatuses program = EachStatus (IsFitStatus (own_names program) program) program.files

-- the status items of programs that are read are fit
abbrev pub ProgramsThatAreReadHaveFitStatuses : Type 0
ProgramsThatAreReadHaveFitStatuses =
    (bytes : List ℕ) (program : Program) → Reads bytes program →
    ReferencesAreFit (own_names program) program → HasFitStatuses program

-- status items that are fit are spelled by their tokens
abbrev pub FitStatusesAreStated : Type 0
FitStatusesAreStated =
    (program : Program) → HasFitStatuses program →
    AreStated (status (own_names program) program.entries) program program.files

-- the status items of programs that are read are spelled by their tokens
abbrev pub ProgramsThatAreReadAreStated : Type 0
ProgramsThatAreReadAreStated =
    (bytes : List ℕ) (program : Program) → Reads bytes program →
    ReferencesAreFit (own_names program) program →
    AreStated (status (own_names program) program.entries) program program.files
