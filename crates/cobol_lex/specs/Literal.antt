-- Literals.
use Rattle.std.specs.Prelude.{ℕ, ◌+◌, ◌&&◌, ◌==◌, nat_le, List, [], ◌∷◌, length, Option, Some, None, Result, Ok, Err, if◌then◌else◌}
use Rattle.cob_base.specs.Bytes.{line_feed}
use Rattle.cobol_lex.specs.declared.token.TokenKind.TheVariants as kind
use Rattle.cobol_lex.specs.declared.lexeme.Lexeme.{Lexeme}
use Rattle.cobol_lex.specs.declared.literal.Quoted.{Quoted}
use Rattle.cobol_lex.specs.declared.fault.LexError.{LexError}
use Rattle.cobol_lex.specs.declared.fault.LexFault.TheVariants as fault
use Rattle.cobol_lex.specs.declared.fault.LexError.TheVariants as error

-- the literal ends here
abbrev pub closed : Option Quoted
closed = Some (record { value = []; taken = 1 })

-- one more byte in front, which takes that many in the text
abbrev pub with_byte : ℕ → ℕ → Option Quoted → Option Quoted
with_byte b taken None = None
with_byte b taken (Some quoted) =
    Some (record { value = b ∷ quoted.value; taken = taken + quoted.taken })

-- what a literal has after its opening mark, where the mark twice stands for it once; none where a
-- line or the text ends before the closing mark
abbrev pub quoted_by : (mark : ℕ) → List ℕ → Option Quoted
quoted_by mark [] = None
quoted_by mark (b ∷ []) = if b == mark then closed else None
quoted_by mark (b ∷ c ∷ rest) =
    if b == mark then (if c == mark then with_byte mark 2 (quoted_by mark rest) else closed)
    else if b == line_feed then None
    else with_byte b 1 (quoted_by mark (c ∷ rest))

-- the token of a literal, by what it has after its opening mark: 1 to 160 bytes
abbrev pub quoted_lexeme : (line : ℕ) → Option Quoted → Result Lexeme LexError
quoted_lexeme line None = Err (error.Fault (fault.OpenLiteral line))
quoted_lexeme line (Some quoted) =
    if nat_le 1 (length quoted.value) && nat_le (length quoted.value) 160
    then Ok (record { kind = kind.Literal quoted.value; length = 1 + quoted.taken })
    else Err (error.Fault (fault.BadWord line))

-- the literal that begins with the first byte
abbrev pub literal_lexeme : (line : ℕ) → List ℕ → Result Lexeme LexError
literal_lexeme line [] = Err (error.Fault (fault.OpenLiteral line))
literal_lexeme line (mark ∷ rest) = quoted_lexeme line (quoted_by mark rest)
