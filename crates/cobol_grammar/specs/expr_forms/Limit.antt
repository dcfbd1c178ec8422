-- What is counted while an expression is read: its terms, and the levels of parentheses in it.
use Rattle.std.specs.Prelude.{ℕ, ◌+◌, nat_lt}
use Rattle.cob_base.specs.Limit.{max_terms}
use Rattle.cob_tree.specs.declared.place.Window.{Window}
use Rattle.cobol_grammar.specs.declared.expr_forms.side.Side.{Side}
use Rattle.cobol_grammar.specs.declared.expr_forms.reference.Suffix.{Suffix}
use Rattle.parser_combinators.specs.declared.why.Why.TheVariants.{Terms}
use Rattle.parser_combinators.specs.Form.{Form}
use Rattle.parser_combinators.specs.Part.{unless}

-- the terms with so many more, unless they pass the limit at the next token
abbrev pub count_terms : ℕ → ℕ → Form ℕ
count_terms count more = unless Terms (nat_lt max_terms (count + more)) (count + more)

-- what is in parentheses, by how many terms there are up to them
pub record Inner : Type 1 where
  -- an expression in parentheses
  pub nested : ℕ → Form (Side × ℕ)
  -- subscripts or a window
  pub suffix : ℕ → Form (Suffix × ℕ)
  -- a window
  pub window : ℕ → Form (Window × ℕ)
