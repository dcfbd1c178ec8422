-- What holds of the tokens of a source.
use Rattle.std.specs.Prelude.{ℕ, ◌≡◌, List, Ok}
use Rattle.ref_format.specs.declared.placed.Placed.{Placed}
use Rattle.ref_format.specs.Joining.{program_text}
use Rattle.cobol_lex.specs.Token.{tokens_of}
use Rattle.cobol_lex.specs.declared.token.Token.{Token}
use Rattle.grammar_laws.specs.form_results.Giving.{AreOf}
use Rattle.round_trip.specs.printable.printable_tokens.Printable.{IsPrintable}

-- the tokens of a source in the format can be printed
abbrev pub TokensArePrintable : Type 0
TokensArePrintable =
    (bytes : List ℕ) (text : List Placed) (tokens : List Token) →
    program_text bytes ≡ Ok text → tokens_of text ≡ Ok tokens → AreOf IsPrintable tokens
