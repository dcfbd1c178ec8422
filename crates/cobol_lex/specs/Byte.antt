-- Kinds of bytes.
use Rattle.std.specs.Prelude.{ℕ, Bool, false, ◌||◌, ◌&&◌, ◌==◌, nat_le, List, [], ◌∷◌}
use Rattle.cob_base.specs.Bytes.{space, line_feed, comma, semicolon, quote, apostrophe, left_parenthesis, right_parenthesis, asterisk, plus_sign, hyphen, period, slash, colon, less_sign, equal_sign, greater_sign, digit_0, digit_9, capital_a, capital_z, small_a, small_z}

-- the byte is a digit
abbrev pub is_digit : ℕ → Bool
is_digit b = nat_le digit_0 b && nat_le b digit_9

-- the byte is a letter, of either case
abbrev pub is_letter : ℕ → Bool
is_letter b = nat_le capital_a b && nat_le b capital_z || nat_le small_a b && nat_le b small_z

-- a space or the end of a line
abbrev pub is_white : ℕ → Bool
is_white b = b == space || b == line_feed

-- what may be between tokens: a space, the end of a line, `,` or `;`
abbrev pub is_separator : ℕ → Bool
is_separator b = is_white b || b == comma || b == semicolon

-- a sign counts only after a separator, `(` or `:`
abbrev pub leads_sign : ℕ → Bool
leads_sign b = is_separator b || b == left_parenthesis || b == colon

-- `+` or `-`
abbrev pub is_sign : ℕ → Bool
is_sign b = b == plus_sign || b == hyphen

-- the byte is a period
abbrev pub is_point : ℕ → Bool
is_point b = b == period

-- `"` or `'`
abbrev pub is_quote : ℕ → Bool
is_quote b = b == quote || b == apostrophe

-- one of `+ - * / = < > ( ) :`
abbrev pub is_mark : ℕ → Bool
is_mark b =
    is_sign b || b == asterisk || b == slash || b == equal_sign || b == less_sign
    || b == greater_sign || b == left_parenthesis || b == right_parenthesis || b == colon

-- the first byte, where there is one, is of this kind
abbrev pub begins : (ℕ → Bool) → List ℕ → Bool
begins kind [] = false
begins kind (b ∷ rest) = kind b
