-- How a token is written.
use Rattle.std.specs.Prelude.{ℕ, ◌≡◌, ◌-◌, ◌<◌, ◌≤◌, Bool, true, false, ◌||◌, ◌&&◌, not, ◌==◌, List, [], ◌∷◌, ◌++◌, map, length, take, drop, slice_index, codes, if◌then◌else◌}
use Rattle.std.specs.List.{list_all}
use Rattle.cob_base.specs.Bytes.{space, line_feed, quote, left_parenthesis, right_parenthesis, asterisk, plus_sign, hyphen, period, slash, colon, less_sign, equal_sign, greater_sign}
use Rattle.cob_base.specs.Spelling.{IsCapitalWord, word_byte}
use Rattle.cob_tree.specs.declared.number.Number.{Number}
use Rattle.ref_format.specs.declared.placed.Placed.{Placed}
use Rattle.cobol_lex.specs.Byte.{is_white, is_digit, is_mark, is_separator, leads_sign, begins}
use Rattle.cobol_lex.specs.Word.{spells, word_run}
use Rattle.cobol_lex.specs.Number.{begins_unsigned}
use Rattle.cobol_lex.specs.Awaits.{awaits_behind}
use Rattle.cobol_lex.specs.Picture.{ends_picture}
use Rattle.cobol_lex.specs.declared.token.Token.{Token}
use Rattle.cobol_lex.specs.declared.token.TokenKind.{TokenKind}
use Rattle.cobol_lex.specs.declared.token.TokenKind.TheVariants as kind
use Rattle.cobol_lex.specs.declared.awaits.Awaits.{Awaits}
use Rattle.cobol_lex.specs.declared.awaits.Awaits.TheVariants as awaits

-- ---- its bytes

-- the bytes of a literal, each `"` twice
abbrev pub doubled : List ℕ → List ℕ
doubled [] = []
doubled (b ∷ rest) = if b == quote then quote ∷ quote ∷ doubled rest else b ∷ doubled rest

-- a period before so many of the digits, where they are any
abbrev pub pointed : (scale : ℕ) → List ℕ → List ℕ
pointed scale digits =
    if scale == 0 then digits
    else take (length digits - scale) digits ++ period ∷ drop (length digits - scale) digits

-- `-`, or `+` where nothing else tells a number from digits alone
abbrev pub sign_of : Number → List ℕ
sign_of number =
    if number.negative then hyphen ∷ []
    else if number.scale == 0 then plus_sign ∷ []
    else []

-- the bytes that a token is written with
abbrev pub written : TokenKind → List ℕ
written (kind.Word word) = word
written (kind.Digits digits) = digits
written (kind.Decimal number) = sign_of number ++ pointed number.scale number.digits
written (kind.Literal value) = quote ∷ doubled value ++ quote ∷ []
written (kind.Picture picture) = picture
written kind.Period = period ∷ []
written (kind.Mark b) = b ∷ []
written kind.LessEqual = less_sign ∷ equal_sign ∷ []
written kind.GreaterEqual = greater_sign ∷ equal_sign ∷ []
written kind.Power = asterisk ∷ asterisk ∷ []

-- ---- which tokens a text can have

-- one to eighteen digits
pub record AreDigits (digits : List ℕ) : Type 0 where
  pub some : 0 < length digits
  pub few : length digits ≤ 18
  pub digits_only : list_all is_digit digits ≡ true

-- nothing in a picture ends it, it doesn't begin as what is between tokens, nor end in `.`, `,`
-- or `;`
pub record IsPicture (picture : List ℕ) : Type 0 where
  pub some : 0 < length picture
  -- no space is in it
  pub filled : list_all (λ b. not (is_white b)) picture ≡ true
  -- it doesn't begin with a separator
  pub begun : is_separator (slice_index picture 0) ≡ false
  -- it doesn't end in `.`, `,` or `;`
  pub ended : ends_picture (slice_index picture (length picture - 1)) ≡ false

-- a token that a text can have where no picture comes
abbrev pub IsPlainToken : TokenKind → Type 0
IsPlainToken (kind.Word word) = IsCapitalWord word × (list_all is_digit word ≡ false)
IsPlainToken (kind.Digits digits) = AreDigits digits
IsPlainToken (kind.Decimal number) = AreDigits number.digits × (number.scale ≤ length number.digits)
IsPlainToken (kind.Literal value) =
    (0 < length value) × (length value ≤ 160) × (list_all (λ b. not (b == line_feed)) value ≡ true)
IsPlainToken (kind.Picture picture) = ⊥
IsPlainToken (kind.Mark b) = is_mark b ≡ true
IsPlainToken _ = Unit {0}

-- a token that a text can have after the tokens before
abbrev pub IsLawful : Awaits → TokenKind → Type 0
IsLawful awaits.Any token = IsPlainToken token
IsLawful awaits.PictureOrIs (kind.Word word) = word ≡ codes "IS"
IsLawful awaits.PictureOrIs (kind.Picture picture) =
    IsPicture picture × (spells (codes "IS") (word_run picture) ≡ false)
IsLawful awaits.Picture (kind.Picture picture) = IsPicture picture
IsLawful _ _ = ⊥

-- tokens that a text can have, after the tokens before
abbrev pub AreLawful : Awaits → List Token → Type 0
AreLawful awaits [] = Unit {0}
AreLawful awaits (token ∷ tokens) =
    IsLawful awaits token.kind × AreLawful (awaits_behind awaits token.kind) tokens

-- ---- what may be round it

-- what follows a token may run on with it: a letter, digit, hyphen, `"`, `=`, `*`, or a
-- period before a digit
abbrev pub runs_on : List ℕ → Bool
runs_on rest =
    begins word_byte rest || begins (λ b. b == quote || b == equal_sign || b == asterisk) rest
    || begins_unsigned rest

-- a mark that is one whatever follows: one of `( ) : / =`
abbrev pub stands_alone : ℕ → Bool
stands_alone b =
    b == left_parenthesis || b == right_parenthesis || b == colon || b == slash || b == equal_sign

-- a sign that this token may begin with counts after this byte
abbrev pub SignCounts : (before : ℕ) → TokenKind → Type 0
SignCounts before (kind.Decimal number) = leads_sign before ≡ true
SignCounts before _ = Unit {0}

-- a space, the end of a line or of the text
abbrev pub is_open : List ℕ → Bool
is_open [] = true
is_open (b ∷ rest) = is_white b

-- the same, or `.`, `,` or `;` before it: what ends a picture
abbrev pub ends_picture_run : List ℕ → Bool
ends_picture_run [] = true
ends_picture_run (b ∷ rest) = is_white b || ends_picture b && is_open rest

-- ---- as text

-- a byte on this line
abbrev pub placed_on : (line : ℕ) → ℕ → Placed
placed_on line b = record { byte = b; line = line }

-- the tokens as text, each after a space
abbrev pub written_text : List Token → List Placed
written_text [] = []
written_text (token ∷ tokens) =
    map (placed_on token.line) (space ∷ written token.kind) ++ written_text tokens
