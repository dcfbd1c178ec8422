-- What holds of conditions.
use Rattle.std.specs.Prelude.{ℕ, ◌≤◌}
use Rattle.parser_combinators.specs.declared.why.Why.TheVariants.{Parens}
use Rattle.parser_combinators.specs.Reading.{IsReader, OnlyAdds, levels_of}
use Rattle.symbol_tables.specs.data_names.Names.{Names}
use Rattle.cobol_grammar.specs.expr_forms.Levels.{inner}
use Rattle.cobol_grammar.specs.cond_forms.Condition.{cond, cond_with, content, whole_cond}

-- each form reads what it spells and nothing else, and stops at the first token up to which the
-- tokens are not cut
pub record ConditionsAreRead : Type 0 where
  pub cond : (names : Names) → IsReader (cond names)
  -- as statements have it
  pub whole_cond : (names : Names) → IsReader (whole_cond names)

-- more levels change neither what is read nor a fault of another kind, and go on after the
-- parenthesis that was one too many
abbrev pub LevelsOnlyAdd : Type 0
LevelsOnlyAdd = (names : Names) (count m n : ℕ) → m ≤ n →
    OnlyAdds (levels_of Parens)
    (cond_with names (inner names m) (content names m) count)
    (cond_with names (inner names n) (content names n) count)
