-- What spells places, operands and expressions.
use Rattle.std.specs.Prelude.{ℕ, ◌≡◌, ◌≤◌, true, false, List}
use Rattle.cob_base.specs.Limit.{max_terms}
use Rattle.cob_tree.specs.declared.place.Expr.{Expr}
use Rattle.cob_tree.specs.declared.place.Operand.{Operand}
use Rattle.cob_tree.specs.declared.place.Operand.TheVariants as operands
use Rattle.cob_tree.specs.declared.place.Place.{Place}
use Rattle.cob_tree.specs.declared.program.Program.{Program}
use Rattle.unparser.specs.Place.{place_tokens, operand_tokens, expr_tokens}
use Rattle.symbol_tables.specs.declared.data_names.name.Referent.TheVariants as found
use Rattle.symbol_tables.specs.declared.data_names.name.ItemKind.{ItemKind}
use Rattle.symbol_tables.specs.data_names.Look.{look}
use Rattle.symbol_tables.specs.data_names.Names.{Names, names_of}
use Rattle.program_facts.specs.term_counts.Expression.{expr_terms}
use Rattle.cobol_grammar.specs.expr_forms.Levels.{data_reference, data_operand, whole_expr}
use Rattle.round_trip.specs.spelled_forms.Spelling.{Spelled}
use Rattle.round_trip.specs.spelling.expr_spelling.Printable.{reference, IsPrintableExpr, IsPrintableOperand, IsPrintablePlace}
use Rattle.round_trip.specs.spelling.expr_spelling.Spelled.{paren_levels, Ends, continues_place, continues_expr, IsOperandSide, IsExprSide, PlaceHasRoom, OperandHasRoom}

-- each is spelled by the tokens that it is printed with, where nothing after them continues it
pub record ExpressionsAreSpelled : Type 0 where
  pub reference : (names : Names) (program : Program) (place : Place) (taken : ℕ) →
      IsPrintablePlace names program place → PlaceHasRoom true paren_levels 0 place →
      Spelled (data_reference names) taken (place_tokens program place) (Ends continues_place)
      (IsOperandSide names program (operands.Place place))
  pub operand : (names : Names) (program : Program) (operand : Operand) (taken : ℕ) →
      IsPrintableOperand names program operand → OperandHasRoom true paren_levels 1 operand →
      Spelled (data_operand names) taken (operand_tokens program operand) (Ends continues_place)
      (IsOperandSide names program operand)
  pub expr : (names : Names) (program : Program) (expr : Expr) (taken : ℕ) →
      IsPrintableExpr names program expr → expr_terms expr ≤ max_terms →
      Spelled (whole_expr names) taken (expr_tokens program expr false) (Ends continues_expr)
      (IsExprSide names program expr)

-- a reference that was read stands for the same item where it is printed
abbrev pub ReferencesAreFound : Type 0
ReferencesAreFound =
    (program : Program) (word : List ℕ) (of : List (List ℕ)) (item : ℕ) (kind : ItemKind) (dims : ℕ)
    →
    look (names_of program.files program.entries) word of ≡ found.Item item kind dims →
    reference (names_of program.files program.entries) program item of ≡ found.Item item kind dims
