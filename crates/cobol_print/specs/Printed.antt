-- The tokens of units, each with the line on which it is printed.
use Rattle.std.specs.Prelude.{ℕ, ◌+◌, ◌==◌, Bool, false, if◌then◌else◌, List, [], ◌∷◌, ◌++◌, length}
use Rattle.cobol_lex.specs.Written.{written}
use Rattle.cobol_lex.specs.declared.token.Token.{Token}
use Rattle.cobol_lex.specs.declared.token.TokenKind.{TokenKind}
use Rattle.cobol_print.specs.declared.spacing.TokenStart.{TokenStart}
use Rattle.cobol_print.specs.declared.units.unit.PrintUnit.{PrintUnit}
use Rattle.cobol_print.specs.Spacing.{no_space_behind, start_of}
use Rattle.cobol_print.specs.Line.{turned, next_column, column_behind}

-- the line of a byte at this column
abbrev pub next_line : (line column : ℕ) → ℕ
next_line line column = if column == 73 then line + 1 else line

-- the line of what follows these bytes
abbrev pub line_behind : (line column : ℕ) (inside : Bool) → List ℕ → ℕ
line_behind line column inside [] = line
line_behind line column inside (b ∷ bytes) =
    line_behind (next_line line column) (next_column column inside) (turned inside b) bytes

-- the line on which a token begins
abbrev pub start_line : (line : ℕ) → TokenStart → ℕ
start_line line start = if start.breaks then line + 1 else line

-- the tokens that follow in a unit from this margin, each with its line
abbrev pub rest_tokens : (line margin column : ℕ) (no_space_behind : Bool) → List TokenKind →
    List Token
rest_tokens line margin column clinging [] = []
rest_tokens line margin column clinging (token ∷ tokens) =
    let start : TokenStart = start_of margin column clinging token (length (written token)) in
    record { kind = token; line = start_line line start }
    ∷ rest_tokens (line_behind (start_line line start) start.column false (written token)) margin
    (column_behind start.column false (written token)) (no_space_behind token) tokens

-- the unit's last line
abbrev pub rest_line : (line margin column : ℕ) (no_space_behind : Bool) → List TokenKind → ℕ
rest_line line margin column clinging [] = line
rest_line line margin column clinging (token ∷ tokens) =
    let start : TokenStart = start_of margin column clinging token (length (written token)) in
    rest_line (line_behind (start_line line start) start.column false (written token)) margin
    (column_behind start.column false (written token)) (no_space_behind token) tokens

-- the tokens of a unit that begins on this line
abbrev pub unit_tokens : (line column : ℕ) → List TokenKind → List Token
unit_tokens line column [] = []
unit_tokens line column (token ∷ tokens) =
    record { kind = token; line = line }
    ∷ rest_tokens (line_behind line column false (written token)) column
    (column_behind column false (written token)) (no_space_behind token) tokens

-- the line on which a unit ends
abbrev pub unit_line : (line column : ℕ) → List TokenKind → ℕ
unit_line line column [] = line
unit_line line column (token ∷ tokens) =
    rest_line (line_behind line column false (written token)) column
    (column_behind column false (written token)) (no_space_behind token) tokens

-- the tokens of the units, which are printed below this line
abbrev pub printed_tokens : (line : ℕ) → List PrintUnit → List Token
printed_tokens line [] = []
printed_tokens line (unit ∷ units) =
    unit_tokens (line + 1) unit.column unit.tokens
    ++ printed_tokens (unit_line (line + 1) unit.column unit.tokens) units
