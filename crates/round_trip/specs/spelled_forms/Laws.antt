-- What spells names and literals.
use Rattle.std.specs.Prelude.{ℕ, ◌≡◌, true, List, [], ◌∷◌}
use Rattle.cob_tree.specs.declared.place.Operand.TheVariants as operands
use Rattle.cobol_lex.specs.declared.token.TokenKind.TheVariants as kinds
use Rattle.parser_combinators.specs.words.Word.{name, is_data_word}
use Rattle.parser_combinators.specs.words.Constant.{literal}
use Rattle.round_trip.specs.spelled_forms.Spelling.{Any, Spelled}

-- a name is spelled by its word, and a literal in quotation marks by its token
pub record TextsAreSpelled : Type 0 where
  -- a name
  pub names : (taken : ℕ) (word : List ℕ) → is_data_word word ≡ true →
      Spelled name taken (kinds.Word word ∷ []) Any (λ found. found.0 ≡ word)
  -- a literal
  pub texts : (taken : ℕ) (text : List ℕ) →
      Spelled literal taken (kinds.Literal text ∷ []) Any
      (λ found. found.0 ≡ operands.Text text)
