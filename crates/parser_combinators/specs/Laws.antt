-- What holds of a grammar that is written in these forms, at the small one.
use Rattle.std.specs.Prelude.{ℕ, ◌≤◌, List}
use Rattle.parser_combinators.specs.declared.example.Step.{Step}
use Rattle.parser_combinators.specs.declared.why.Why.TheVariants.{Parens, Nesting}
use Rattle.parser_combinators.specs.Reading.{IsReader, OnlyAdds, levels_of}
use Rattle.parser_combinators.specs.Example.{sum, any_sums, shown, orders, text}

-- each form reads what it spells and nothing else, and stops at the first token up to which the
-- tokens are not cut
pub record FormsAreRead : Type 0 where
  -- a sum
  pub sums : (levels : ℕ) → IsReader (sum levels)
  -- any number of sums
  pub any_number : (levels : ℕ) → IsReader (any_sums levels)
  -- a form with its value changed
  pub changed : (levels : ℕ) → IsReader (shown levels)
  pub orders : (known : List (List ℕ)) (levels : ℕ) (before : List Step) →
      IsReader (orders known levels before)
  pub text : (known : List (List ℕ)) → IsReader (text known)

-- more levels change neither what is read nor a fault of another kind, and go on after what was
-- nested too deep
pub record LevelsOnlyAdd : Type 0 where
  -- of parentheses
  pub parens : (m n : ℕ) → m ≤ n → OnlyAdds (levels_of Parens) (sum m) (sum n)
  -- of REPEAT
  pub nesting : (known : List (List ℕ)) (before : List Step) (m n : ℕ) →
      m ≤ n → OnlyAdds (levels_of Nesting) (orders known m before) (orders known n before)
