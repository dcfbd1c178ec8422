-- What holds of the closed grammar.
use Rattle.std.specs.Prelude.{ℕ, ◌≡◌, List}
use Rattle.cob_tree.specs.declared.entry.Entry.{Entry}
use Rattle.cobol_lex.specs.declared.token.Token.{Token}
use Rattle.parser_combinators.specs.Reading.{IsReader}
use Rattle.symbol_tables.specs.data_names.Names.{Names}
use Rattle.cobol_grammar.specs.declared.expr_forms.side.ExprContent.TheVariants as makes
use Rattle.cobol_grammar.specs.declared.expr_forms.side.Side.{Side}
use Rattle.cobol_grammar.specs.expr_forms.Fault.{relation_fault}
use Rattle.symbol_tables.specs.declared.procedure_names.table.ProcedureTable.{ProcedureTable}
use Rattle.cobol_grammar.specs.declared.stmt_forms.scope.Scope.{Scope}
use Rattle.cobol_grammar.specs.stmt_forms.Stmt.{stmts}
use Rattle.cobol_grammar.specs.Use.{known_of, subject_fault}
use Rattle.cobol_grammar.specs.Whole.{parts_of, division}

-- each form reads what it spells and nothing else, and stops at the first token up to which the
-- tokens are not cut
pub record GrammarIsRead : Type 0 where
  -- the form of statements
  pub stmts : (names : Names) (entries : List Entry) (table : ProcedureTable)
      (levels : ℕ) (scope : Scope) → IsReader (stmts (parts_of names entries table) levels scope)
  -- the form of the PROCEDURE DIVISION
  pub division : (names : Names) (entries : List Entry) (tokens : List Token) (from : ℕ) →
      IsReader (division names entries tokens from)

-- a subject is compared as the left side of a relation, unless it is a literal
abbrev pub SubjectsAreCompared : Type 0
SubjectsAreCompared = (left right : Side) → (left.make ≡ makes.Literal → ⊥) →
    subject_fault (known_of left) right ≡ relation_fault left right
