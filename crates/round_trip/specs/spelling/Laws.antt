-- What holds of the parts of statements that a program is read with.
use Rattle.std.specs.Prelude.{ℕ, ◌≡◌, ◌≤◌, true, List}
use Rattle.cob_base.specs.Limit.{max_terms}
use Rattle.cob_tree.specs.declared.cond.Cond.{Cond}
use Rattle.cob_tree.specs.declared.entry.Entry.{Entry}
use Rattle.cob_tree.specs.declared.place.Expr.{Expr}
use Rattle.cob_tree.specs.declared.place.Operand.{Operand}
use Rattle.cob_tree.specs.declared.place.Place.{Place}
use Rattle.cob_tree.specs.declared.program.Program.{Program}
use Rattle.cobol_print.specs.Unit.{all_tokens}
use Rattle.cobol_print.specs.units.Division.{paragraphs_units}
use Rattle.cobol_grammar.specs.stmt_forms.Paragraph.{division}
use Rattle.round_trip.specs.spelled_forms.Spelling.{Spelled}
use Rattle.symbol_tables.specs.data_names.Names.{Names}
use Rattle.symbol_tables.specs.declared.procedure_names.table.ProcedureTable.{ProcedureTable}
use Rattle.program_facts.specs.term_counts.Condition.{cond_terms}
use Rattle.program_facts.specs.term_counts.Expression.{expr_terms, place_most, operand_most}
use Rattle.cobol_grammar.specs.Whole.{parts_of}
use Rattle.round_trip.specs.spelling.stmt_spelling.Part.{PartsAreTold, SpellsOperand, SpellsPlace, SpellsExpr, SpellsCond, SpellsFile, SpellsRecord, SpellsLabel, SpellsRange}
use Rattle.round_trip.specs.spelling.stmt_spelling.Division.{AtEnd, SpellsHeader, SpellsDivision}
use Rattle.round_trip.specs.spelling.stmt_spelling.Stmt.{CountsTurns}
use Rattle.round_trip.specs.spelling.expr_spelling.Printable.{IsPrintableExpr, IsPrintableOperand, IsPrintablePlace}
use Rattle.round_trip.specs.spelling.expr_spelling.Spelled.{paren_levels, PlaceHasRoom, OperandHasRoom}
use Rattle.round_trip.specs.spelling.cond_spelling.Printable.{IsPrintableCond}
use Rattle.round_trip.specs.spelling.Kept.{kept_of}
use Rattle.round_trip.specs.spelling.Named.{IsNamedFile, IsNamedRecord, IsHeader, IsLabel, IsRange}
use Rattle.round_trip.specs.spelling.Use.{OperandIsFree, ExprIsFree}

-- what is kept of a part says what is in the tree for it
abbrev pub PartsOfAreTold : Type 0
PartsOfAreTold =
    (names : Names) (entries : List Entry) (table : ProcedureTable) (program : Program) →
    PartsAreTold (parts_of names entries table) (kept_of names program)

-- each part is spelled by the tokens that it is printed with
pub record PartsAreSpelled : Type 0 where
  pub operand : (names : Names) (entries : List Entry) (table : ProcedureTable)
      (program : Program) (operand : Operand) → IsPrintableOperand names program operand →
      OperandHasRoom true paren_levels 1 operand →
      SpellsOperand (parts_of names entries table) (kept_of names program) program operand
  pub place : (names : Names) (entries : List Entry) (table : ProcedureTable)
      (program : Program) (place : Place) → IsPrintablePlace names program place →
      PlaceHasRoom true paren_levels 0 place →
      SpellsPlace (parts_of names entries table) (kept_of names program) program place
  pub expr : (names : Names) (entries : List Entry) (table : ProcedureTable)
      (program : Program) (expr : Expr) → IsPrintableExpr names program expr →
      expr_terms expr ≤ max_terms →
      SpellsExpr (parts_of names entries table) (kept_of names program) program expr
  pub cond : (names : Names) (entries : List Entry) (table : ProcedureTable)
      (program : Program) (cond : Cond) → IsPrintableCond names program cond →
      cond_terms cond ≤ max_terms →
      SpellsCond (parts_of names entries table) (kept_of names program) program cond
  pub file : (names : Names) (entries : List Entry) (table : ProcedureTable)
      (program : Program) (file : ℕ) → IsNamedFile names program file →
      SpellsFile (parts_of names entries table) (kept_of names program) program file
  pub entry : (names : Names) (entries : List Entry) (table : ProcedureTable)
      (program : Program) (entry : ℕ) → IsNamedRecord names program entries entry →
      SpellsRecord (parts_of names entries table) (kept_of names program) program entry
  pub label : (names : Names) (entries : List Entry) (table : ProcedureTable)
      (program : Program) (number : ℕ) (span : ℕ × ℕ) → IsLabel table program number span →
      SpellsLabel (parts_of names entries table) (kept_of names program) program number span
  pub range : (names : Names) (entries : List Entry) (table : ProcedureTable)
      (program : Program) (entry exit : ℕ) → IsRange table program entry exit →
      SpellsRange (parts_of names entries table) (kept_of names program) program entry exit
  pub header : (names : Names) (entries : List Entry) (table : ProcedureTable)
      (program : Program) (name : List ℕ) (taken : ℕ) → IsHeader table name taken →
      SpellsHeader (parts_of names entries table) (kept_of names program) program name taken
  -- what counts an inline PERFORM
  pub turns : (names : Names) (entries : List Entry) (table : ProcedureTable)
      (program : Program) (count : Operand) → IsPrintableOperand names program count →
      OperandHasRoom true paren_levels 0 count →
      CountsTurns (parts_of names entries table) (kept_of names program) program count

-- no fault is noted of uses that fit their kinds
pub record UsesAreFree : Type 0 where
  pub operand : (names : Names) (entries : List Entry) (table : ProcedureTable)
      (program : Program) (operand : Operand) → OperandIsFree names entries table program operand
  pub expr : (names : Names) (entries : List Entry) (table : ProcedureTable)
      (program : Program) (expr : Expr) → ExprIsFree names entries table program expr

-- What has at most the terms of a whole program's limit has room; an operand counts as one itself.
pub record TermsHaveRoom : Type 0 where
  pub place : (place : Place) → place_most place ≤ max_terms →
      PlaceHasRoom true paren_levels 0 place
  pub operand : (operand : Operand) → operand_most operand ≤ 499 →
      OperandHasRoom true paren_levels 1 operand
  pub turns : (operand : Operand) → operand_most operand ≤ max_terms →
      OperandHasRoom true paren_levels 0 operand

-- the procedure division of a program, over parts that spell what they are to
abbrev pub ProceduresAreSpelled : Type 0
ProceduresAreSpelled = (names : Names) (entries : List Entry) (table : ProcedureTable)
    (program : Program) (taken : ℕ) →
    SpellsDivision (parts_of names entries table) (kept_of names program) program taken
    program.paragraphs →
    Spelled (division (parts_of names entries table)) taken
    (all_tokens (paragraphs_units program program.paragraphs)) AtEnd
    (λ found. found ≡ program.paragraphs)
