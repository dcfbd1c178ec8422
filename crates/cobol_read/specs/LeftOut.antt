-- Words that this profile leaves out. The sign of power counts as one.
use Rattle.std.specs.Prelude.{ℕ, List, [], ◌∷◌, Option, Some, None, if◌then◌else◌}
use Rattle.cob_words.specs.Lists.{left_out_words, is_listed}
use Rattle.cobol_lex.specs.declared.token.Token.{Token}
use Rattle.cobol_lex.specs.declared.token.TokenKind.{TokenKind}
use Rattle.cobol_lex.specs.declared.token.TokenKind.TheVariants as kinds
use Rattle.cobol_read.specs.declared.refusal.ReadFault.{ReadFault}
use Rattle.cobol_read.specs.declared.refusal.ReadFault.TheVariants as faults

-- a word that is left out is refused, at its line
abbrev pub word_refusal : List ℕ → (line : ℕ) → Option ReadFault
word_refusal word line =
    if is_listed left_out_words word then Some (faults.LeftOut word line) else None

-- a token of this kind is refused, if it is a word that is left out or the sign of power
abbrev pub kind_refusal : TokenKind → (line : ℕ) → Option ReadFault
kind_refusal (kinds.Word word) line = word_refusal word line
kind_refusal kinds.Power line = Some (faults.Power line)
kind_refusal _ line = None

-- why a token is refused, if it is
abbrev pub token_refusal : Token → Option ReadFault
token_refusal token = kind_refusal token.kind token.line

-- the first refusal, or else the second
abbrev pub or_else : Option ReadFault → Option ReadFault → Option ReadFault
or_else (Some refusal) behind = Some refusal
or_else None behind = behind

-- why the first of these tokens is refused that is
unfoldable pub first_left_out : List Token → Option ReadFault
first_left_out [] = None
first_left_out (token ∷ tokens) = or_else (token_refusal token) (first_left_out tokens)
