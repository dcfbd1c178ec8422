-- Names of paragraphs and sections that can be printed.
use Rattle.std.specs.Prelude.{ℕ, ◌≡◌, List, Some}
use Rattle.cobol_lex.specs.declared.token.TokenKind.{TokenKind}
use Rattle.symbol_tables.specs.procedure_names.Procedures.{header_name}
use Rattle.round_trip.specs.printable.printable_tokens.Printable.{IsPrintable}

-- a name that a header may have, of a token that can be printed
pub record IsHeaderName (name : List ℕ) : Type 0 where
  pub kind : TokenKind
  -- it is the name of such a token
  pub is : header_name kind ≡ Some name
  pub printable : IsPrintable kind
