-- Tokens in any lay-out, with their lines.
use Rattle.std.specs.Prelude.{ℕ, ◌≡◌, ◌⊎◌, true, false, List, [], ◌∷◌, ◌++◌, map, take}
use Rattle.std.specs.List.{list_all}
use Rattle.ref_format.specs.declared.placed.Placed.{Placed}
use Rattle.ref_format.specs.Placed.{bytes_of}
use Rattle.cobol_lex.specs.Byte.{is_separator}
use Rattle.cobol_lex.specs.Awaits.{awaits_behind}
use Rattle.cobol_lex.specs.Written.{written, runs_on, stands_alone, ends_picture_run, IsLawful, SignCounts}
use Rattle.cobol_lex.specs.declared.token.Token.{Token}
use Rattle.cobol_lex.specs.declared.token.TokenKind.{TokenKind}
use Rattle.cobol_lex.specs.declared.token.TokenKind.TheVariants as kind
use Rattle.cobol_lex.specs.declared.awaits.Awaits.{Awaits}

-- a token in a text: what comes before it, and its own bytes
pub record Laid : Type 0 where
  -- what comes before it
  pub gap : List Placed
  -- its own bytes
  pub piece : List Placed
  pub token : Token

-- the text of these, and what follows them
abbrev pub laid_text : List Laid → List Placed → List Placed
laid_text [] end = end
laid_text (one ∷ more) end = one.gap ++ (one.piece ++ laid_text more end)

-- the last byte, or the one before where there is none
abbrev pub last_byte : (before : ℕ) → List Placed → ℕ
last_byte before [] = before
last_byte before (p ∷ rest) = last_byte p.byte rest

-- what follows a token doesn't run on with it
abbrev pub Ends : TokenKind → List Placed → Type 0
Ends (kind.Picture picture) rest = ends_picture_run (bytes_of rest) ≡ true
Ends (kind.Mark b) rest = (stands_alone b ≡ true) ⊎ (runs_on (bytes_of rest) ≡ false)
Ends _ rest = runs_on (bytes_of rest) ≡ false

-- the bytes are separators alone
abbrev pub AreSeparators : List Placed → Type 0
AreSeparators text = list_all is_separator (bytes_of text) ≡ true

-- the first byte is on this line
abbrev pub BeginsOn : (line : ℕ) → List Placed → Type 0
BeginsOn line piece = map (λ p. p.line) (take 1 piece) ≡ line ∷ []

-- a token is written after separators alone, begins on its line, and ends before the rest
pub record IsLaid (awaits : Awaits) (before : ℕ) (one : Laid) (rest : List Placed) : Type 0 where
  -- separators alone come before it
  pub apart : AreSeparators one.gap
  -- its bytes are the token's
  pub spelled : bytes_of one.piece ≡ written one.token.kind
  -- it begins on its line
  pub begun : BeginsOn one.token.line one.piece
  -- it can come here
  pub lawful : IsLawful awaits one.token.kind
  -- where it has a sign, that counts here
  pub signed : SignCounts (last_byte before one.gap) one.token.kind
  -- what follows doesn't run on with it
  pub ended : Ends one.token.kind rest

-- each of these is, and separators alone follow them
abbrev pub AreLaid : Awaits → (before : ℕ) → List Laid → List Placed → Type 0
AreLaid awaits before [] end = AreSeparators end
AreLaid awaits before (one ∷ more) end =
    IsLaid awaits before one (laid_text more end)
    × AreLaid (awaits_behind awaits one.token.kind)
    (last_byte (last_byte before one.gap) one.piece) more end

-- the text is the tokens' pieces, in order, with separators alone before each and after the last;
-- a piece begins on its token's line
abbrev pub Covers : List Placed → List Token → Type 0
Covers text [] = AreSeparators text
Covers text (token ∷ tokens) =
    (gap : List Placed) × (piece : List Placed) × (rest : List Placed)
    × (text ≡ gap ++ (piece ++ rest)) × AreSeparators gap × BeginsOn token.line piece
    × Covers rest tokens
