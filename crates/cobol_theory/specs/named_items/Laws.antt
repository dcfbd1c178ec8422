-- What holds of named statements.
use Rattle.std.specs.Prelude.{ℕ, ◌≡◌, ◌<◌, true}
use Rattle.cob_tree.specs.declared.stmt.Stmt.{Stmt}
use Rattle.meanings.specs.statements.Filing.{Declared}
use Rattle.cobol_theory.specs.added_items.Own.{items, has_record, stmt_own}
use Rattle.program_facts.specs.well_scoped.Part.{Counts}
use Rattle.program_facts.specs.well_scoped.Named.{stmt_named}

-- where as many items are declared as are counted, and each file has a record, a named statement
-- names items of the program alone
abbrev pub NamedStatementsAreOwn : Type 0
NamedStatementsAreOwn =
    (declared : Declared) (counts : Counts) → counts.items ≡ items declared →
    ((file : ℕ) → file < counts.files → has_record declared file ≡ true) →
    (stmt : Stmt) → stmt_named counts stmt ≡ true → stmt_own declared stmt ≡ true
