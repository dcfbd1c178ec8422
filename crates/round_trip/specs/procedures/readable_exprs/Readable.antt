-- Places, operands and expressions as they are read, where what is in the tree for them can be
-- printed so that it is read back, and the same is known of it.
use Rattle.std.specs.Prelude.{ℕ, ◌≡◌, ◌≤◌, true, None}
use Rattle.cob_base.specs.Limit.{max_terms}
use Rattle.cob_tree.specs.declared.cond.Cond.{Cond}
use Rattle.cob_tree.specs.declared.place.Operand.TheVariants as operands
use Rattle.cob_tree.specs.declared.program.Program.{Program}
use Rattle.program_facts.specs.term_counts.Condition.{cond_terms}
use Rattle.program_facts.specs.term_counts.Expression.{expr_terms}
use Rattle.symbol_tables.specs.data_names.Names.{Names}
use Rattle.cobol_grammar.specs.declared.expr_forms.side.Side.{Side}
use Rattle.cobol_grammar.specs.expr_forms.Fault.{number_fault, whole_fault}
use Rattle.cobol_grammar.specs.expr_forms.Side.{expr_of}
use Rattle.cobol_grammar.specs.Use.{operand_of, place_of}
use Rattle.round_trip.specs.spelling.expr_spelling.Printable.{IsPrintableExpr, IsPrintableOperand, IsPrintablePlace}
use Rattle.round_trip.specs.spelling.expr_spelling.Spelled.{paren_levels, IsOperandSide, IsExprSide, PlaceHasRoom, OperandHasRoom}
use Rattle.round_trip.specs.spelling.cond_spelling.Printable.{IsPrintableCond}

module _ (names : Names) (program : Program) where
  -- an operand that can be printed and read again, which has room after so many terms
  pub record IsReadableOperand (most : ℕ) (side : Side) : Type 0 where
    -- it can be printed so
    pub fit : IsPrintableOperand names program (operand_of side.what)
    -- its window has room
    pub room : (before : ℕ) → before ≤ most →
        OperandHasRoom true paren_levels before (operand_of side.what)
    -- the same is known of it
    pub kept : IsOperandSide names program (operand_of side.what) side

  -- a reference that can be printed and read again; alone it isn't counted itself
  pub record IsReadablePlace (side : Side) : Type 0 where
    -- it can be printed so
    pub fit : IsPrintablePlace names program (place_of side.what)
    -- its window has room
    pub room : PlaceHasRoom true paren_levels 0 (place_of side.what)
    -- the same is known of it
    pub kept : IsOperandSide names program (operands.Place (place_of side.what)) side
    -- it is a place as an operand too
    pub same : operand_of side.what ≡ operands.Place (place_of side.what)
    -- as an operand it can be read again
    pub operand : IsReadableOperand 0 side
    -- a number has no window, so it has room after any terms
    pub number : (most : ℕ) → number_fault side ≡ None → IsReadableOperand most side
    -- and where it is used as a whole number
    pub whole : (most : ℕ) → whole_fault side ≡ None → IsReadableOperand most side

  -- an expression, within the limit of terms
  pub record IsReadableExpr (side : Side) : Type 0 where
    -- it can be printed so
    pub fit : IsPrintableExpr names program (expr_of side.what)
    -- it has no more terms than their limit
    pub few : expr_terms (expr_of side.what) ≤ max_terms
    -- the same is known of it
    pub kept : IsExprSide names program (expr_of side.what) side

  -- a condition, within the limit of terms
  pub record IsReadableCond (cond : Cond) : Type 0 where
    -- it can be printed so
    pub fit : IsPrintableCond names program cond
    -- it has no more terms than their limit
    pub few : cond_terms cond ≤ max_terms
