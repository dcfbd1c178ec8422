-- Numbers.
use Rattle.std.specs.Prelude.{ℕ, ◌+◌, Bool, ◌||◌, ◌&&◌, ◌==◌, not, nat_le, nat_lt, List, [], ◌∷◌, length, take, drop, filter, Result, Ok, Err, if◌then◌else◌}
use Rattle.std.specs.List.{list_any, list_all, count_by, prefix_len}
use Rattle.cob_base.specs.Bytes.{hyphen}
use Rattle.cob_base.specs.Spelling.{word_byte}
use Rattle.cob_tree.specs.declared.number.Number.{Number}
use Rattle.cobol_lex.specs.Byte.{is_digit, is_sign, is_point, leads_sign, begins}
use Rattle.cobol_lex.specs.Word.{word_kind}
use Rattle.cobol_lex.specs.declared.token.TokenKind.{TokenKind}
use Rattle.cobol_lex.specs.declared.token.TokenKind.TheVariants as kind
use Rattle.cobol_lex.specs.declared.fault.LexError.{LexError}
use Rattle.cobol_lex.specs.declared.fault.LexFault.TheVariants as fault
use Rattle.cobol_lex.specs.declared.fault.LexError.TheVariants as error

-- ---- where a number is

-- a digit, or a period before a digit
abbrev pub begins_unsigned : List ℕ → Bool
begins_unsigned bytes =
    begins is_digit bytes || begins is_point bytes && begins is_digit (drop 1 bytes)

-- the same, or a sign before it that counts by the byte that comes before the sign
abbrev pub begins_number : (before : ℕ) → List ℕ → Bool
begins_number before bytes =
    begins_unsigned bytes
    || begins is_sign bytes && leads_sign before && begins_unsigned (drop 1 bytes)

-- how many letters, digits, hyphens, and periods that a digit follows, are at the front
abbrev pub unsigned_length : List ℕ → ℕ
unsigned_length [] = 0
unsigned_length (b ∷ rest) =
    if word_byte b || is_point b && begins is_digit rest then 1 + unsigned_length rest else 0

-- what follows the sign, where one is in front
abbrev pub unsigned : List ℕ → List ℕ
unsigned bytes = if begins is_sign bytes then drop 1 bytes else bytes

-- how long the number is that begins these bytes: a sign, where one is in front, and the run after
-- it
abbrev pub number_length : List ℕ → ℕ
number_length bytes =
    if begins is_sign bytes then 1 + unsigned_length (drop 1 bytes) else unsigned_length bytes

-- the run that begins a text as a number
abbrev pub number_run : List ℕ → List ℕ
number_run bytes = take (number_length bytes) bytes

-- ---- its digits

-- the bytes without periods
abbrev pub digits_of : List ℕ → List ℕ
digits_of bytes = filter (λ b. not (is_point b)) bytes

-- digits with at most one period
abbrev pub is_decimal : List ℕ → Bool
is_decimal bytes =
    list_all (λ b. is_digit b || is_point b) bytes && nat_le (count_by is_point bytes) 1

-- the digits from the period on, which follow it
abbrev pub decimals : List ℕ → List ℕ
decimals bytes = digits_of (drop (prefix_len (λ b. not (is_point b)) bytes) bytes)

-- ---- its token

-- the number of a run whose bytes after the sign are these
abbrev pub decimal_number : (run bytes : List ℕ) → Number
decimal_number run bytes = record {
  negative = begins (λ b. b == hyphen) run;
  digits = digits_of bytes;
  scale = length (decimals bytes);
}

-- the number with a sign or a decimal point that a run is, or its fault
abbrev pub decimal_kind : (line : ℕ) → (run bytes : List ℕ) → Result TokenKind LexError
decimal_kind line run bytes =
    if not (is_decimal bytes) then Err (error.Fault (fault.BadNumber line))
    else if nat_lt 18 (length (digits_of bytes)) then Err (error.Fault (fault.TooManyDigits line))
    else Ok (kind.Decimal (decimal_number run bytes))

-- the digits that a run is, or that they are too many
abbrev pub digits_kind : (line : ℕ) → List ℕ → Result TokenKind LexError
digits_kind line run =
    if nat_lt 18 (length run) then Err (error.Fault (fault.TooManyDigits line))
    else Ok (kind.Digits run)

-- the token of a run that begins as a number
abbrev pub number_kind : (line : ℕ) → List ℕ → Result TokenKind LexError
number_kind line run =
    if begins is_sign run || list_any is_point run then decimal_kind line run (unsigned run)
    else if list_all is_digit run then digits_kind line run
    else word_kind line run
