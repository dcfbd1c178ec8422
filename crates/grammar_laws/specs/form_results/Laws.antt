-- What literals give.
use Rattle.std.specs.Prelude.{◌≡◌, true}
use Rattle.parser_combinators.specs.words.Constant.{literal}
use Rattle.grammar_laws.specs.form_results.Giving.{Gives}
use Rattle.grammar_laws.specs.form_results.Numbered.{IsNumbered, is_literal}

-- a literal is no place, and its number is a number
abbrev pub LiteralsGive : Type 0
LiteralsGive = Gives IsNumbered literal (λ found. is_literal found.0 ≡ true)
