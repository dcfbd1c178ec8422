-- Where tokens are on a line.
use Rattle.std.specs.Prelude.{ℕ, ◌+◌, Bool, true, false, not, ◌==◌, ◌&&◌, ◌||◌, nat_le, if◌then◌else◌}
use Rattle.cob_base.specs.Bytes.{left_parenthesis, right_parenthesis, colon}
use Rattle.cobol_lex.specs.declared.token.TokenKind.{TokenKind}
use Rattle.cobol_lex.specs.declared.token.TokenKind.TheVariants as kind
use Rattle.cobol_print.specs.declared.spacing.TokenStart.{TokenStart}

-- no space comes before this token: `.`, `)` and `:`
abbrev pub hugs : TokenKind → Bool
hugs kind.Period = true
hugs (kind.Mark b) = b == right_parenthesis || b == colon
hugs _ = false

-- no space follows this token: it is `(` or `:`
abbrev pub no_space_behind : TokenKind → Bool
no_space_behind (kind.Mark b) = b == left_parenthesis || b == colon
no_space_behind _ = false

-- the token is a literal
abbrev pub is_literal : TokenKind → Bool
is_literal (kind.Literal value) = true
is_literal _ = false

-- so many bytes from this column on end in column 72 at the latest
abbrev pub fits : (column size : ℕ) → Bool
fits column size = nat_le (column + size) 73

-- where a token is on the same line, after one that clings or one that doesn't
abbrev pub column_of : (column : ℕ) (no_space_behind : Bool) → TokenKind → ℕ
column_of column no_space_behind token =
    if no_space_behind || hugs token then column else column + 1

-- where a token of this size begins, in a unit from this margin, after what ends before this
-- column: on the same line where it fits there, else four columns after the margin, and a literal
-- that is too long for that in column 12
abbrev pub start_of : (margin column : ℕ) (no_space_behind : Bool) → TokenKind → (size : ℕ) →
    TokenStart
start_of margin column no_space_behind token size =
    if fits (column_of column no_space_behind token) size
    then record { breaks = false; column = column_of column no_space_behind token }
    else if is_literal token && not (fits (margin + 4) size)
    then record { breaks = true; column = 12 }
    else record { breaks = true; column = margin + 4 }
