-- The token that begins a text, and the bytes that it takes.
use Rattle.std.specs.Prelude.{ℕ, ◌&&◌, ◌==◌, List, [], ◌∷◌, length, Result, Ok, Err, if◌then◌else◌}
use Rattle.cob_base.specs.Bytes.{asterisk, less_sign, equal_sign, greater_sign}
use Rattle.cobol_lex.specs.Byte.{is_letter, is_quote, is_mark, is_point, begins}
use Rattle.cobol_lex.specs.Word.{word_run, word_kind}
use Rattle.cobol_lex.specs.Number.{begins_number, number_run, number_kind}
use Rattle.cobol_lex.specs.Literal.{literal_lexeme}
use Rattle.cobol_lex.specs.Awaits.{awaits_picture}
use Rattle.cobol_lex.specs.Picture.{picture_run, picture_lexeme}
use Rattle.cobol_lex.specs.declared.token.TokenKind.{TokenKind}
use Rattle.cobol_lex.specs.declared.token.TokenKind.TheVariants as kind
use Rattle.cobol_lex.specs.declared.awaits.Awaits.{Awaits}
use Rattle.cobol_lex.specs.declared.lexeme.Lexeme.{Lexeme}
use Rattle.cobol_lex.specs.declared.fault.LexError.{LexError}
use Rattle.cobol_lex.specs.declared.fault.LexFault.TheVariants as fault
use Rattle.cobol_lex.specs.declared.fault.LexError.TheVariants as error

-- a kind of token with the bytes that it takes
abbrev pub lexeme_of : (length : ℕ) → Result TokenKind LexError → Result Lexeme LexError
lexeme_of length (Ok kind) = Ok (record { kind = kind; length = length })
lexeme_of length (Err fault) = Err fault

-- a period, a mark or a pair of marks, with this first byte
abbrev pub mark_lexeme : (line b : ℕ) → (rest : List ℕ) → Result Lexeme LexError
mark_lexeme line b rest =
    if is_point b then lexeme_of 1 (Ok kind.Period)
    else if b == asterisk && begins (λ c. c == asterisk) rest then lexeme_of 2 (Ok kind.Power)
    else if b == less_sign && begins (λ c. c == equal_sign) rest
    then lexeme_of 2 (Ok kind.LessEqual)
    else if b == greater_sign && begins (λ c. c == equal_sign) rest
    then lexeme_of 2 (Ok kind.GreaterEqual)
    else if is_mark b then lexeme_of 1 (Ok (kind.Mark b))
    else Err (error.Fault (fault.BadWord line))

-- the number that this run is, with its bytes
abbrev pub number_lexeme : (line : ℕ) → (run : List ℕ) → Result Lexeme LexError
number_lexeme line run = lexeme_of (length run) (number_kind line run)

-- the word that this run is, with its bytes
abbrev pub word_lexeme : (line : ℕ) → (run : List ℕ) → Result Lexeme LexError
word_lexeme line run = lexeme_of (length run) (word_kind line run)

-- the token that begins the text where no picture comes, after the byte before
abbrev pub plain_lexeme : (before line : ℕ) → List ℕ → Result Lexeme LexError
plain_lexeme before line [] = Err (error.Fault (fault.BadWord line))
plain_lexeme before line (b ∷ rest) =
    if is_quote b then literal_lexeme line (b ∷ rest)
    else if begins_number before (b ∷ rest) then number_lexeme line (number_run (b ∷ rest))
    else if is_letter b then word_lexeme line (word_run (b ∷ rest))
    else mark_lexeme line b rest

-- the token that begins the text, after the byte before and the tokens before
abbrev pub next_lexeme : Awaits → (before line : ℕ) → List ℕ → Result Lexeme LexError
next_lexeme awaits before line bytes =
    if awaits_picture awaits bytes then picture_lexeme line (picture_run bytes)
    else plain_lexeme before line bytes
