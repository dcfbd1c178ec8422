-- References and expressions with so many levels of parentheses.
use Rattle.std.specs.Prelude.{ℕ, zero, suc, true, false, List}
use Rattle.parser_combinators.specs.declared.note.Position.{Position}
use Rattle.cobol_grammar.specs.declared.expr_forms.side.Side.{Side}
use Rattle.cob_base.specs.Bytes.{left_parenthesis}
use Rattle.parser_combinators.specs.declared.why.Why.TheVariants.{Parens}
use Rattle.parser_combinators.specs.Form.{Form, pure, ◌>>=◌}
use Rattle.parser_combinators.specs.Part.{is_mark, too_deep}
use Rattle.symbol_tables.specs.data_names.Names.{Names}
use Rattle.cob_base.specs.Limit.{max_parens}
use Rattle.cobol_grammar.specs.expr_forms.Limit.{Inner}
use Rattle.cobol_grammar.specs.expr_forms.Reference.{reference, reference_behind}
use Rattle.cobol_grammar.specs.expr_forms.Operand.{operand}
use Rattle.cobol_grammar.specs.expr_forms.Expression.{expr, in_nested}
use Rattle.cobol_grammar.specs.expr_forms.Window.{in_window}
use Rattle.cobol_grammar.specs.expr_forms.Front.{in_suffix}

-- the parts in parentheses, with so many levels left; past the last one they are too deep
unfoldable pub inner : Names → ℕ → Inner
inner names zero = record {
  nested = λ count. too_deep Parens (is_mark left_parenthesis);
  suffix = λ count. too_deep Parens (is_mark left_parenthesis);
  window = λ count. too_deep Parens (is_mark left_parenthesis);
}
inner names (suc n) = record {
  nested = λ count. in_nested names (inner names n) count;
  suffix = λ count. in_suffix names (inner names n) false count;
  window = λ count. in_window names (inner names n) false count;
}

-- what is in parentheses after a reference outside of any expression, whose own aren't counted
abbrev pub outer : Names → Inner
outer names = record {
  nested = λ count. in_nested names (inner names max_parens) count;
  suffix = λ count. in_suffix names (inner names max_parens) true count;
  window = λ count. in_window names (inner names max_parens) true count;
}

-- ---- as statements have them

-- a reference outside of any expression
unfoldable pub data_reference : Names → Form Side
data_reference names = reference names (outer names) 0 >>= (λ side. pure side.0)

-- the same after its first word
unfoldable pub data_reference_behind : Names → List ℕ → Position → Form Side
data_reference_behind names first position =
    reference_behind names (outer names) first position 0 >>= (λ side. pure side.0)

-- an operand outside of any expression
unfoldable pub data_operand : Names → Form Side
data_operand names = operand names (outer names) 0 >>= (λ side. pure side.0)

-- an expression, outside of any other
unfoldable pub whole_expr : Names → Form Side
whole_expr names = expr names (inner names max_parens) 0 >>= (λ side. pure side.0)
