-- Which units can be printed so that they read back.
use Rattle.std.specs.Prelude.{ℕ, ◌≡◌, ◌≤◌, ◌+◌, Bool, true, not, ◌&&◌, nat_le, List, [], ◌∷◌, ◌++◌, length, All}
use Rattle.std.specs.List.{list_all}
use Rattle.cob_base.specs.Bytes.{space}
use Rattle.cobol_lex.specs.Byte.{is_quote}
use Rattle.cobol_lex.specs.Awaits.{awaits_behind}
use Rattle.cobol_lex.specs.Written.{written, IsLawful}
use Rattle.cobol_lex.specs.declared.awaits.Awaits.{Awaits}
use Rattle.cobol_lex.specs.declared.token.TokenKind.{TokenKind}
use Rattle.cobol_lex.specs.declared.token.TokenKind.TheVariants as kind
use Rattle.cobol_print.specs.declared.units.unit.PrintUnit.{PrintUnit}
use Rattle.cobol_print.specs.Spacing.{hugs}

-- the tokens of these units, one after the other
abbrev pub all_tokens : List PrintUnit → List TokenKind
all_tokens [] = []
all_tokens (unit ∷ units) = unit.tokens ++ all_tokens units

-- each can be in a text after those before it
abbrev pub AreLawfulKinds : Awaits → List TokenKind → Type 0
AreLawfulKinds awaits [] = Unit {0}
AreLawfulKinds awaits (token ∷ tokens) =
    IsLawful awaits token × AreLawfulKinds (awaits_behind awaits token) tokens

-- a byte that can be printed, and is no space or quotation mark
abbrev pub is_ink : ℕ → Bool
is_ink b = nat_le 33 b && not (is_quote b)

-- a literal without control characters, or a token that fits on a new line
abbrev pub IsSized : (margin : ℕ) → TokenKind → Type 0
IsSized margin (kind.Literal value) = list_all (nat_le space) value ≡ true
IsSized margin (kind.Picture picture) =
    (margin + 4 + length picture ≤ 73) × (list_all is_ink picture ≡ true)
IsSized margin token = margin + 4 + length (written token) ≤ 73

-- these two may meet with no space between them: nothing but a period after a picture, and
-- nothing after a period
abbrev pub may_meet : (before next : TokenKind) → Bool
may_meet kind.Period next = not (hugs next)
may_meet (kind.Picture picture) kind.Period = true
may_meet (kind.Picture picture) next = not (hugs next)
may_meet _ next = true

-- each two neighbours may
abbrev pub MayMeet : (before : TokenKind) → List TokenKind → Type 0
MayMeet before [] = Unit {0}
MayMeet before (token ∷ tokens) = (may_meet before token ≡ true) × MayMeet token tokens

-- a unit begins with a word or with digits
abbrev pub BeginsWell : List TokenKind → Type 0
BeginsWell (kind.Word word ∷ tokens) = MayMeet (kind.Word word) tokens
BeginsWell (kind.Digits digits ∷ tokens) = MayMeet (kind.Digits digits) tokens
BeginsWell _ = ⊥

-- a unit that can be printed from its column on
pub record IsUnit (unit : PrintUnit) : Type 0 where
  -- it begins in column 8 at least
  pub low : 8 ≤ unit.column
  -- it begins with a word or with digits
  pub begins : BeginsWell unit.tokens
  -- each token fits on a new line, or is a literal
  pub sized : All (IsSized unit.column) unit.tokens
