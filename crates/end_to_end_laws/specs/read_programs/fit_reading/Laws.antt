-- What holds of programs that are read.
use Rattle.std.specs.Prelude.{ℕ, ◌≡◌, ◌<◌, true, List, length, map}
use Rattle.cob_tree.specs.declared.program.Program.{Program}
use Rattle.cobol_read.specs.Reading.{Reads}
use Rattle.control_flow_theory.specs.language.All.{all}
use Rattle.meanings.specs.statements.Does.{declared_in}
use Rattle.cobol_theory.specs.added_items.Own.{items, has_record}
use Rattle.cobol_theory.specs.fit_programs.Fit.{entry_fits}

-- each file has a record
abbrev pub ProgramsThatAreReadHaveRecords : Type 0
ProgramsThatAreReadHaveRecords =
    (bytes : List ℕ) (program : Program) → Reads bytes program →
    (file : ℕ) → file < length program.files → has_record (declared_in program) file ≡ true

-- entries are as they can be written
abbrev pub EntriesThatAreReadFit : Type 0
EntriesThatAreReadFit =
    (bytes : List ℕ) (program : Program) → Reads bytes program →
    all (map entry_fits program.entries) ≡ true

-- each entry has an item
abbrev pub ProgramsThatAreReadHaveItems : Type 0
ProgramsThatAreReadHaveItems =
    (bytes : List ℕ) (program : Program) → Reads bytes program →
    items (declared_in program) ≡ length program.entries
