-- The same lines as bytes, as they are written one after the other.
use Rattle.std.specs.Prelude.{ℕ, ◌-◌, Bool, false, ◌==◌, if◌then◌else◌, List, [], ◌∷◌, ◌++◌, length, replicate, codes}
use Rattle.cob_base.specs.Bytes.{line_feed, space}
use Rattle.cobol_lex.specs.Written.{written}
use Rattle.cobol_lex.specs.declared.token.TokenKind.{TokenKind}
use Rattle.cobol_print.specs.declared.spacing.TokenStart.{TokenStart}
use Rattle.cobol_print.specs.declared.units.unit.PrintUnit.{PrintUnit}
use Rattle.cobol_print.specs.Spacing.{no_space_behind, start_of}
use Rattle.cobol_print.specs.Line.{mark_again, next_column, turned, column_behind}

-- the end of a line and the front of its continuation
abbrev pub continuation : List ℕ
continuation = line_feed ∷ codes "      -    "

-- the bytes of one byte of a token; past column 72 a continuation line begins before it
abbrev pub byte_bytes : (column : ℕ) (inside : Bool) → ℕ → List ℕ
byte_bytes column inside b =
    if column == 73 then continuation ++ mark_again inside ++ b ∷ [] else b ∷ []

-- the bytes of a token, from this column on
abbrev pub spread : (column : ℕ) (inside : Bool) → List ℕ → List ℕ
spread column inside [] = []
spread column inside (b ∷ bytes) =
    byte_bytes column inside b ++ spread (next_column column inside) (turned inside b) bytes

-- what comes before a token
abbrev pub start_bytes : TokenStart → (column : ℕ) → List ℕ
start_bytes start column =
    if start.breaks then line_feed ∷ replicate 7 space ++ replicate (start.column - 8) space
    else replicate (start.column - column) space

-- the bytes of a token in a unit from this margin, after what ends before this column
abbrev pub token_bytes : (margin column : ℕ) (no_space_behind : Bool) → TokenKind → List ℕ
token_bytes margin column clinging token =
    let start : TokenStart = start_of margin column clinging token (length (written token)) in
    start_bytes start column ++ spread start.column false (written token)

-- the column after that token
abbrev pub column_after : (margin column : ℕ) (no_space_behind : Bool) → TokenKind → ℕ
column_after margin column clinging token =
    let start : TokenStart = start_of margin column clinging token (length (written token)) in
    column_behind start.column false (written token)

-- the bytes of the tokens that follow in a unit, and the end of its last line
abbrev pub rest_bytes : (margin column : ℕ) (no_space_behind : Bool) → List TokenKind → List ℕ
rest_bytes margin column clinging [] = line_feed ∷ []
rest_bytes margin column clinging (token ∷ tokens) =
    let start : TokenStart = start_of margin column clinging token (length (written token)) in
    start_bytes start column ++ spread start.column false (written token)
    ++ rest_bytes margin (column_behind start.column false (written token)) (no_space_behind token)
    tokens

-- the bytes of a unit, with the end of its last line
abbrev pub unit_bytes : (column : ℕ) → List TokenKind → List ℕ
unit_bytes column [] = []
unit_bytes column (token ∷ tokens) =
    replicate 7 space ++ replicate (column - 8) space ++ spread column false (written token)
    ++ rest_bytes column (column_behind column false (written token)) (no_space_behind token) tokens

-- the bytes of these units
abbrev pub units_bytes : List PrintUnit → List ℕ
units_bytes [] = []
units_bytes (unit ∷ units) = unit_bytes unit.column unit.tokens ++ units_bytes units
