-- Words that a program takes for its own (ISO 1989:1985, user-defined words).
use Rattle.std.specs.Prelude.{ℕ, Bool, false, ◌&&◌, ◌||◌, not, nat_le, List}
use Rattle.std.specs.List.{list_any}
use Rattle.cob_base.specs.Bytes.{capital_a, capital_z, small_a, small_z}
use Rattle.cob_words.specs.Lists.{reserved_words, left_out_words, is_listed}
use Rattle.cobol_lex.specs.declared.token.TokenKind.{TokenKind}
use Rattle.cobol_lex.specs.declared.token.TokenKind.TheVariants as kinds
use Rattle.parser_combinators.specs.declared.note.Position.{Position}
use Rattle.parser_combinators.specs.declared.why.Why.TheVariants.{Syntax}
use Rattle.parser_combinators.specs.Form.{Form, refuse, where_next}
use Rattle.parser_combinators.specs.Part.{word}

-- the byte is a letter, of either case
abbrev pub is_letter : ℕ → Bool
is_letter byte =
    nat_le capital_a byte && nat_le byte capital_z || nat_le small_a byte && nat_le byte small_z

-- the word has a letter
abbrev pub has_letter : List ℕ → Bool
has_letter word = list_any is_letter word

-- the word isn't reserved, nor of what this profile leaves out
unfoldable pub is_free : List ℕ → Bool
is_free word = not (is_listed reserved_words word) && not (is_listed left_out_words word)

-- the word may name data, a file or a program: it has a letter and isn't reserved; names of
-- procedures and computers need no letter
unfoldable pub is_data_word : List ℕ → Bool
is_data_word word = has_letter word && is_free word

-- the token is a word that may name data, a file or a program
abbrev pub is_name : TokenKind → Bool
is_name (kinds.Word word) = is_data_word word
is_name _ = false

-- the token is a word that a program may take for its own
abbrev pub is_user_word : TokenKind → Bool
is_user_word (kinds.Word word) = is_free word
is_user_word _ = false

-- a name of data, of a file or of a program
unfoldable pub name : Form (List ℕ × Position)
name = where_next is_name word (refuse Syntax)

-- a word that a program takes for its own
unfoldable pub user_word : Form (List ℕ × Position)
user_word = where_next is_user_word word (refuse Syntax)
