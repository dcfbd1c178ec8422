-- What statements take.
use Rattle.std.specs.Prelude.{ℕ, List}
use Rattle.cob_tree.specs.declared.entry.Entry.{Entry}
use Rattle.symbol_tables.specs.data_names.Names.{Names}
use Rattle.symbol_tables.specs.declared.procedure_names.table.ProcedureTable.{ProcedureTable}
use Rattle.cobol_grammar.specs.declared.stmt_forms.scope.Scope.{Scope}
use Rattle.cobol_grammar.specs.stmt_forms.Stmt.{stmts}
use Rattle.cobol_grammar.specs.Whole.{parts_of}
use Rattle.grammar_laws.specs.no_periods.Plain.{Plain}

-- the form of statements takes no period
abbrev pub StatementsTakeNoPeriod : Type 0
StatementsTakeNoPeriod =
    (names : Names) (entries : List Entry) (table : ProcedureTable) (levels : ℕ) (scope : Scope) →
    Plain (stmts (parts_of names entries table) levels scope)
