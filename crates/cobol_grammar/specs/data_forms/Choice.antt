-- Words that may be one or another, or be left out.
use Rattle.std.specs.Prelude.{ℕ, Bool, ◌||◌, List}
use Rattle.cobol_lex.specs.declared.token.TokenKind.{TokenKind}
use Rattle.parser_combinators.specs.declared.note.Position.{Position}
use Rattle.parser_combinators.specs.Form.{Form, pure, ◌>>◌, where_next}
use Rattle.parser_combinators.specs.Part.{key, maybe, period, is_key}

-- one of two words
abbrev pub is_either : List ℕ → List ℕ → TokenKind → Bool
is_either one other kind = is_key one kind || is_key other kind

-- one of two words, with where it is
unfoldable pub either : List ℕ → List ℕ → Form Position
either one other = where_next (is_key one) (key one) (key other)

-- one of two words, or none
unfoldable pub maybe_either : List ℕ → List ℕ → Form (Unit {0})
maybe_either one other = where_next (is_key one) (key one >> pure tt) (maybe other)

-- the word and a period
unfoldable pub headed : List ℕ → Form (Unit {0})
headed word = key word >> period >> pure tt

-- NAME DIVISION . or NAME SECTION .
unfoldable pub header : List ℕ → List ℕ → Form (Unit {0})
header name kind = key name >> headed kind
