-- What holds of the tokens of every text.
use Rattle.std.specs.Prelude.{ℕ, ◌≡◌, true, false, List, ◌++◌, map, length, Ok}
use Rattle.std.specs.List.Sorted.{IsNonDecreasingBy}
use Rattle.ref_format.specs.declared.placed.Placed.{Placed}
use Rattle.cobol_lex.specs.Awaits.{awaits_picture}
use Rattle.cobol_lex.specs.Lexeme.{next_lexeme}
use Rattle.cobol_lex.specs.Token.{tokens_of}
use Rattle.cobol_lex.specs.Written.{written, written_text, runs_on, ends_picture_run, IsPlainToken, IsPicture, AreLawful, SignCounts}
use Rattle.cobol_lex.specs.Laid.{Laid, laid_text, AreLaid, Covers}
use Rattle.cobol_lex.specs.declared.token.Token.{Token}
use Rattle.cobol_lex.specs.declared.token.TokenKind.{TokenKind}
use Rattle.cobol_lex.specs.declared.token.TokenKind.TheVariants as kind
use Rattle.cobol_lex.specs.declared.awaits.Awaits.{Awaits}
use Rattle.cobol_lex.specs.declared.awaits.Awaits.TheVariants as awaits

-- the lines of the tokens rise where those of the text do
abbrev pub TokenLinesRise : Type 0
TokenLinesRise =
    (text : List Placed) (tokens : List Token) → tokens_of text ≡ Ok tokens →
    IsNonDecreasingBy (λ p. p.line) text → IsNonDecreasingBy (λ t. t.line) tokens

-- the text is the tokens, in order, with separators alone round each
abbrev pub TokensCover : Type 0
TokensCover =
    (text : List Placed) (tokens : List Token) → tokens_of text ≡ Ok tokens → Covers text tokens

-- a token that is written is read back, whatever follows that doesn't run on with it
abbrev pub TokenReadsBack : Type 0
TokenReadsBack =
    (token : TokenKind) (before line : ℕ) (rest : List ℕ) →
    IsPlainToken token → SignCounts before token → runs_on rest ≡ false →
    next_lexeme awaits.Any before line (written token ++ rest)
    ≡ Ok (record { kind = token; length = length (written token) })

-- a picture that is written is read back
abbrev pub PictureReadsBack : Type 0
PictureReadsBack =
    (picture : List ℕ) (awaits : Awaits) (before line : ℕ) (rest : List ℕ) →
    IsPicture picture → awaits_picture awaits (picture ++ rest) ≡ true →
    ends_picture_run rest ≡ true →
    next_lexeme awaits before line (picture ++ rest)
    ≡ Ok (record { kind = kind.Picture picture; length = length picture })

-- tokens with single spaces between them are read back
abbrev pub TextReadsBack : Type 0
TextReadsBack =
    (tokens : List Token) → AreLawful awaits.Any tokens →
    tokens_of (written_text tokens) ≡ Ok tokens

-- a text of tokens in any lay-out has these tokens
abbrev pub LaidReadsBack : Type 0
LaidReadsBack =
    (laid : List Laid) (end : List Placed) → AreLaid awaits.Any 0 laid end →
    tokens_of (laid_text laid end) ≡ Ok (map (λ one. one.token) laid)
