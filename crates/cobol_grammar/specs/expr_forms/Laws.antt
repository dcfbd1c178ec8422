-- What holds of references and expressions.
use Rattle.std.specs.Prelude.{ℕ, ◌≤◌, List}
use Rattle.parser_combinators.specs.declared.note.Position.{Position}
use Rattle.parser_combinators.specs.declared.why.Why.TheVariants.{Parens}
use Rattle.parser_combinators.specs.Reading.{IsReader, OnlyAdds, levels_of}
use Rattle.symbol_tables.specs.data_names.Names.{Names}
use Rattle.cobol_grammar.specs.expr_forms.Reference.{reference}
use Rattle.cobol_grammar.specs.expr_forms.Operand.{operand}
use Rattle.cobol_grammar.specs.expr_forms.Expression.{expr}
use Rattle.cobol_grammar.specs.expr_forms.Levels.{inner, data_reference, data_reference_behind, data_operand, whole_expr}

-- each form reads what it spells and nothing else, and stops at the first token up to which the
-- tokens are not cut
pub record ExpressionsAreRead : Type 0 where
  pub reference : (names : Names) (levels count : ℕ) →
      IsReader (reference names (inner names levels) count)
  pub operand : (names : Names) (levels count : ℕ) →
      IsReader (operand names (inner names levels) count)
  pub expr : (names : Names) (levels count : ℕ) → IsReader (expr names (inner names levels) count)
  -- as statements have them
  pub data_reference : (names : Names) → IsReader (data_reference names)
  pub data_reference_behind : (names : Names) (first : List ℕ) (position : Position) →
      IsReader (data_reference_behind names first position)
  pub data_operand : (names : Names) → IsReader (data_operand names)
  pub whole_expr : (names : Names) → IsReader (whole_expr names)

-- more levels change neither what is read nor a fault of another kind, and go on after the
-- parenthesis that was one too many
abbrev pub ParenthesesOnlyAdd : Type 0
ParenthesesOnlyAdd = (names : Names) (count m n : ℕ) → m ≤ n →
    OnlyAdds (levels_of Parens)
    (expr names (inner names m) count) (expr names (inner names n) count)
