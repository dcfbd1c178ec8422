-- A program that is read has a record of each file, entries that fit, and as many items as entries.
use Rattle.std.proofs.Common.{◌≡◌, ℕ, ◌<◌, true, List, length, map}
use Rattle.cob_tree.specs.declared.program.Program.{Program}
use Rattle.cobol_read.specs.Reading.{Reads}
use Rattle.control_flow_theory.specs.language.All.{all}
use Rattle.meanings.specs.statements.Does.{declared_in}
use Rattle.cobol_theory.specs.added_items.Own.{items, has_record}
use Rattle.end_to_end_laws.proofs.read_programs_lemmas.named_reading_lemmas.Whole.{read-named}
use Rattle.cobol_theory.specs.fit_programs.Fit.{entry_fits}
use Rattle.end_to_end_laws.proofs.read_programs_lemmas.fit_reading_lemmas.Named.{as-many, recorded, entries-fit}

pub read-recorded : (bytes : List ℕ) (program : Program) → Reads bytes program → (file : ℕ) → file < length program.files → has_record (declared_in program) file ≡ true
read-recorded bytes program reads file there =
    let named = (read-named bytes program reads).0 in
    recorded program file named.entries.begins (named.bound.recorded file there)

pub read-fit : (bytes : List ℕ) (program : Program) → Reads bytes program → all (map entry_fits program.entries) ≡ true
read-fit bytes program reads = entries-fit program.entries (read-named bytes program reads).0.bound.pictured

pub read-items : (bytes : List ℕ) (program : Program) → Reads bytes program → items (declared_in program) ≡ length program.entries
read-items bytes program reads = as-many program (read-named bytes program reads).0.entries.begins
