-- What holds of the tokens of a text.
use Rattle.std.specs.Prelude.{◌≡◌, List, Ok}
use Rattle.ref_format.specs.declared.placed.Placed.{Placed}
use Rattle.cobol_lex.specs.Token.{tokens_of}
use Rattle.cobol_lex.specs.declared.token.Token.{Token}
use Rattle.grammar_laws.specs.form_results.Giving.{AreOf}
use Rattle.grammar_laws.specs.form_results.Numbered.{IsNumbered}

-- each number in the tokens of a text is a number
abbrev pub TokensAreNumbered : Type 0
TokensAreNumbered =
    (text : List Placed) (tokens : List Token) → tokens_of text ≡ Ok tokens →
    AreOf IsNumbered tokens
