-- Statements on files, and files that are open.
use Rattle.std.specs.Prelude.{ℕ, Bool, List, is_some}
use Rattle.std.specs.List.{list_any}
use Rattle.cob_tree.specs.declared.stmt.Stmt.{Stmt}
use Rattle.file_model.specs.declared.table.FileRow.{FileRow}
use Rattle.control_flow_theory.specs.language.Control.{seen}
use Rattle.cobol_run.specs.Plain.{PlainStmt}

-- the statement is in no plain program
abbrev pub StandsInNone : Stmt → Type 0
StandsInNone stmt = (last : ℕ) → PlainStmt (seen last stmt) → ⊥

-- the file is open
abbrev pub is_open : FileRow → Bool
is_open row = is_some row.how

-- whether one of them is open
abbrev pub some_open : List FileRow → Bool
some_open = list_any is_open
