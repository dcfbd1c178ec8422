-- Literals and figurative constants (ISO 1989:1985, literals).
use Rattle.std.specs.Prelude.{ℕ, Bool, true, false, ◌||◌, codes, List, Option, Some, None, if◌then◌else◌}
use Rattle.std.specs.Option.{is_some}
use Rattle.std.specs.Str.{bytes_eq}
use Rattle.cob_tree.specs.declared.number.Number.{Number}
use Rattle.cob_tree.specs.declared.place.Figure.{Figure}
use Rattle.cob_tree.specs.declared.place.Figure.TheVariants as figures
use Rattle.cob_tree.specs.declared.place.Operand.{Operand}
use Rattle.cob_tree.specs.declared.place.Operand.TheVariants as operands
use Rattle.cobol_lex.specs.declared.token.TokenKind.{TokenKind}
use Rattle.cobol_lex.specs.declared.token.TokenKind.TheVariants as kinds
use Rattle.parser_combinators.specs.declared.note.Position.{Position}
use Rattle.parser_combinators.specs.Form.{Form, pure, ◌>>=◌, where_next}
use Rattle.parser_combinators.specs.Part as part

-- the word is one of two
abbrev pub is_either : List ℕ → List ℕ → List ℕ → Bool
is_either one other word = bytes_eq word one || bytes_eq word other

-- the figurative constant that a word is
unfoldable pub figure_of_word : List ℕ → Option Figure
figure_of_word word =
    if bytes_eq word (codes "ZERO") || is_either (codes "ZEROS") (codes "ZEROES") word
    then Some figures.Zero
    else if is_either (codes "SPACE") (codes "SPACES") word then Some figures.Space
    else if is_either (codes "HIGH-VALUE") (codes "HIGH-VALUES") word then Some figures.HighValue
    else if is_either (codes "LOW-VALUE") (codes "LOW-VALUES") word then Some figures.LowValue
    else if is_either (codes "QUOTE") (codes "QUOTES") word then Some figures.Quote
    else None

-- the figurative constant that a token is
abbrev pub figure_of : TokenKind → Option Figure
figure_of (kinds.Word word) = figure_of_word word
figure_of _ = None

-- the token is digits
abbrev pub is_digits : TokenKind → Bool
is_digits (kinds.Digits digits) = true
is_digits _ = false

-- the token is a number with a decimal point or a sign
abbrev pub is_decimal : TokenKind → Bool
is_decimal (kinds.Decimal number) = true
is_decimal _ = false

-- the token is a literal
abbrev pub is_text : TokenKind → Bool
is_text (kinds.Literal text) = true
is_text _ = false

-- the token is digits, a number, a literal or a figurative constant
unfoldable pub begins_literal : TokenKind → Bool
begins_literal kind =
    is_digits kind || (is_decimal kind || (is_text kind || is_some (figure_of kind)))

-- the number that digits write
abbrev pub whole : List ℕ → Number
whole digits = record { negative = false; digits = digits; scale = 0 }

-- digits as an operand
unfoldable pub whole_number : Form (Operand × Position)
whole_number = part.digits >>= (λ found. pure (operands.Number (whole found.0), found.1))

-- a number with a decimal point or a sign as an operand
unfoldable pub other_number : Form (Operand × Position)
other_number = part.decimal >>= (λ found. pure (operands.Number found.0, found.1))

-- a literal as an operand
unfoldable pub text : Form (Operand × Position)
text = part.literal >>= (λ found. pure (operands.Text found.0, found.1))

-- a figurative constant as an operand
unfoldable pub figure : Form (Operand × Position)
figure = part.valued figure_of >>= (λ found. pure (operands.Figure found.0, found.1))

-- a literal or a figurative constant as an operand
unfoldable pub text_or_figure : Form (Operand × Position)
text_or_figure = where_next is_text text figure

-- Digits | Decimal | literal | figure
unfoldable pub literal : Form (Operand × Position)
literal = where_next is_digits whole_number (where_next is_decimal other_number text_or_figure)
