-- What is kept of operands, expressions and records as they are read: what is in the tree for
-- them, and what the names of their program tell of them.
use Rattle.std.specs.Prelude.{ℕ, ◌≡◌, []}
use Rattle.cob_tree.specs.declared.program.Program.{Program}
use Rattle.symbol_tables.specs.data_names.Names.{Names}
use Rattle.cobol_grammar.specs.declared.expr_forms.side.Side.{Side}
use Rattle.cobol_grammar.specs.declared.expr_forms.side.ParsedExpr.TheVariants as whats
use Rattle.cobol_grammar.specs.expr_forms.Fault.{kind_of}
use Rattle.cobol_grammar.specs.Use.{bare_place}
use Rattle.round_trip.specs.spelling.expr_spelling.Printable.{reference}
use Rattle.round_trip.specs.spelling.expr_spelling.Spelled.{IsOperandSide, IsExprSide}
use Rattle.round_trip.specs.spelling.stmt_spelling.Part.{Kept}

module _ (names : Names) (program : Program) where
  -- a record that is written, by its name alone
  pub record IsEntrySide (entry : ℕ) (side : Side) : Type 0 where
    -- it is the record's name
    pub what : side.what ≡ whats.Ref (bare_place entry)
    -- of the kind that the names tell
    pub kind : side.kind ≡ kind_of (reference names program entry [])

  -- what is kept of each of them
  abbrev pub kept_of : Kept Side
  kept_of = record {
    operand = λ operand side. IsOperandSide names program operand side;
    expr = λ expr side. IsExprSide names program expr side;
    entry = λ entry side. IsEntrySide entry side;
  }
