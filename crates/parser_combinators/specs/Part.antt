-- The parts of a grammar that are one token.
use Rattle.std.specs.Prelude.{ℕ, Bool, true, false, ◌==◌, List, Option, Some, None, if◌then◌else◌}
use Rattle.std.specs.Str.{bytes_eq}
use Rattle.cobol_lex.specs.declared.token.TokenKind.{TokenKind}
use Rattle.cobol_lex.specs.declared.token.TokenKind.TheVariants as kinds
use Rattle.cob_tree.specs.declared.number.Number.{Number}
use Rattle.parser_combinators.specs.declared.note.Position.{Position}
use Rattle.parser_combinators.specs.declared.why.Why.{Why}
use Rattle.parser_combinators.specs.declared.why.Why.TheVariants.{Syntax}
use Rattle.parser_combinators.specs.Form.{Form, one, by, pure, refuse, ◌>>◌, chosen, where_next}

-- the value, where this holds
abbrev pub when : {A : Type 0} → Bool → A → Option A
when holds a = if holds then Some a else None

-- the word of these bytes
abbrev pub is_key : List ℕ → TokenKind → Bool
is_key word (kinds.Word found) = bytes_eq word found
is_key word _ = false

-- the mark of this byte
abbrev pub is_mark : ℕ → TokenKind → Bool
is_mark byte (kinds.Mark found) = byte == found
is_mark byte _ = false

-- a period
abbrev pub is_period : TokenKind → Bool
is_period kinds.Period = true
is_period _ = false

-- a token of this kind, of which only the position is kept
abbrev pub sign : (TokenKind → Bool) → Form Position
sign test = one (λ position kind. when (test kind) position)

-- the word of these bytes
abbrev pub key : List ℕ → Form Position
key word = sign (is_key word)

-- the mark of this byte
abbrev pub mark : ℕ → Form Position
mark byte = sign (is_mark byte)

-- a period, with its position
abbrev pub period : Form Position
period = sign is_period

-- a word that may be left out
abbrev pub maybe : List ℕ → Form (Unit {0})
maybe word = where_next (is_key word) (key word >> pure tt) (pure tt)

-- a value, and the position of its token
abbrev pub with_position : {A : Type 0} → Position → Option A → Option (A × Position)
with_position position (Some a) = Some (a, position)
with_position position None = None

-- a token that has a value, with its position
abbrev pub valued : {A : Type 0} → (TokenKind → Option A) → Form (A × Position)
valued test = one (λ position kind. with_position position (test kind))

-- the word that a token is
abbrev pub word_of : TokenKind → Option (List ℕ)
word_of (kinds.Word word) = Some word
word_of _ = None

-- the digits that a token is
abbrev pub digits_of : TokenKind → Option (List ℕ)
digits_of (kinds.Digits digits) = Some digits
digits_of _ = None

-- the number with a decimal point or a sign that a token is
abbrev pub decimal_of : TokenKind → Option Number
decimal_of (kinds.Decimal number) = Some number
decimal_of _ = None

-- the text of the literal that a token is
abbrev pub literal_of : TokenKind → Option (List ℕ)
literal_of (kinds.Literal text) = Some text
literal_of _ = None

-- the picture that a token is
abbrev pub picture_of : TokenKind → Option (List ℕ)
picture_of (kinds.Picture picture) = Some picture
picture_of _ = None

-- a word, with its position
abbrev pub word : Form (List ℕ × Position)
word = valued word_of

-- digits, with their position
abbrev pub digits : Form (List ℕ × Position)
digits = valued digits_of

-- a number with a decimal point or a sign, with its position
abbrev pub decimal : Form (Number × Position)
decimal = valued decimal_of

-- a literal, with its position
abbrev pub literal : Form (List ℕ × Position)
literal = valued literal_of

-- a picture, with its position
abbrev pub picture : Form (List ℕ × Position)
picture = valued picture_of

-- there is no next token
abbrev pub ended_by : Option TokenKind → Form (Unit {0})
ended_by None = pure tt
ended_by (Some kind) = refuse Syntax

-- no token is left
abbrev pub ended : Form (Unit {0})
ended = by ended_by

-- one of these that is nested too deep
abbrev pub too_deep : {A : Type 0} → Why → (TokenKind → Bool) → Form A
too_deep why begin = where_next begin (refuse why) (refuse Syntax)

-- a value, unless what it counts passes its limit at the next token
abbrev pub unless : {A : Type 0} → Why → (passes : Bool) → A → Form A
unless why passes a = chosen passes (refuse why) (pure a)
