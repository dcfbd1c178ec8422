-- a window: "(" expr : [expr] ")"
use Rattle.std.specs.Prelude.{ℕ, Bool, true, false, Option, Some, None}
use Rattle.cob_tree.specs.declared.place.Expr.{Expr}
use Rattle.cob_tree.specs.declared.place.Window.{Window, roll-Window}
use Rattle.cobol_grammar.specs.declared.expr_forms.side.Side.{Side}
use Rattle.cobol_grammar.specs.expr_forms.Fault.{whole_fault}
use Rattle.cobol_grammar.specs.expr_forms.Side.{expr_of}
use Rattle.cob_base.specs.Bytes.{left_parenthesis, right_parenthesis, colon}
use Rattle.parser_combinators.specs.Form.{Form, pure, note, ◌>>=◌, ◌>>◌, where_next}
use Rattle.parser_combinators.specs.Part.{mark, is_mark}
use Rattle.symbol_tables.specs.data_names.Names.{Names}
use Rattle.cobol_grammar.specs.expr_forms.Limit.{Inner}
use Rattle.cobol_grammar.specs.expr_forms.Expression.{expr}

-- An expression, or none where the window ends at the item's end.
unfoldable pub length_part : Names → Inner → ℕ → Form (Option Expr × ℕ)
length_part names inner count = where_next (is_mark right_parenthesis) (pure (None, count))
    (expr names inner count
    >>= (λ side. note (whole_fault side.0) >> pure (Some (expr_of side.0.what), side.1)))

-- what is counted where a window's second expression begins: a window alone, outside of any
-- expression, begins anew there
abbrev pub second_count : (alone : Bool) → ℕ → ℕ
second_count true count = 0
second_count false count = count

-- the rest of a window after its first expression
unfoldable pub window_behind : Names → Inner → (alone : Bool) → Side → ℕ → Form (Window × ℕ)
window_behind names inner alone first count = do
  mark colon
  note (whole_fault first)
  size ← length_part names inner (second_count alone count)
  mark right_parenthesis
  pure (roll-Window (record { from = expr_of first.what; length = size.0 }), size.1)

-- a window: "(" expr : [expr] ")"
unfoldable pub in_window : Names → Inner → (alone : Bool) → ℕ → Form (Window × ℕ)
in_window names inner alone count = do
  mark left_parenthesis
  first ← expr names inner count
  window_behind names inner alone first.0 first.1
