-- How units are laid out in lines.
use Rattle.std.specs.Prelude.{ℕ, ◌+◌, ◌-◌, Bool, false, not, ◌==◌, if◌then◌else◌, List, [], ◌∷◌, ◌++◌, length, map, replicate}
use Rattle.cob_base.specs.Bytes.{space, quote}
use Rattle.ref_format.specs.Entry.{NoEntry}
use Rattle.ref_format.specs.Line.{source_of}
use Rattle.ref_format.specs.Row.{Row, Begins, GoesOn, row_line}
use Rattle.cobol_lex.specs.Written.{written}
use Rattle.cobol_lex.specs.declared.token.TokenKind.{TokenKind}
use Rattle.cobol_print.specs.declared.spacing.TokenStart.{TokenStart}
use Rattle.cobol_print.specs.declared.units.unit.PrintUnit.{PrintUnit}
use Rattle.cobol_print.specs.Spacing.{no_space_behind, start_of}

-- what is on a line from some column on, and the lines below it
pub record Rest : Type 0 where
  -- what is on the line
  pub here : List ℕ
  -- the lines below it
  pub below : List Row

-- the lines with these bytes before what is on the first
abbrev pub in_front : List ℕ → Rest → Rest
in_front bytes rest = record { here = bytes ++ rest.here; below = rest.below }

-- these bytes begin a new line, before what is on it
abbrev pub on_new_line : List ℕ → Rest → Rest
on_new_line bytes rest = record { here = []; below = Begins (bytes ++ rest.here) ∷ rest.below }

-- these bytes begin a continuation line, before what is on it
abbrev pub continued : List ℕ → Rest → Rest
continued bytes rest = record { here = []; below = GoesOn (bytes ++ rest.here) ∷ rest.below }

-- ---- a byte, and the bytes of a token

-- a quotation mark opens a literal, and the next one closes it
abbrev pub turned : (inside : Bool) → ℕ → Bool
turned inside b = if b == quote then not inside else inside

-- what a continuation repeats of a literal; where the line ends between the two marks that stand
-- for one, the second does for that
abbrev pub mark_again : (inside : Bool) → List ℕ
mark_again inside = if inside then quote ∷ [] else []

-- a byte of a token at this column, which goes on in the next line after column 72
abbrev pub byte_onto : (column : ℕ) (inside : Bool) → ℕ → Rest → Rest
byte_onto column inside b rest =
    if column == 73 then continued (mark_again inside ++ b ∷ []) rest else in_front (b ∷ []) rest

-- the column after that byte
abbrev pub next_column : (column : ℕ) (inside : Bool) → ℕ
next_column column inside = if column == 73 then (if inside then 14 else 13) else column + 1

-- the bytes of a token from this column on
abbrev pub onto : (column : ℕ) (inside : Bool) → List ℕ → Rest → Rest
onto column inside [] rest = rest
onto column inside (b ∷ bytes) rest =
    byte_onto column inside b (onto (next_column column inside) (turned inside b) bytes rest)

-- the column after them
abbrev pub column_behind : (column : ℕ) (inside : Bool) → List ℕ → ℕ
column_behind column inside [] = column
column_behind column inside (b ∷ bytes) =
    column_behind (next_column column inside) (turned inside b) bytes

-- ---- the tokens of a unit

-- a token from where it begins, after what ends before this column
abbrev pub begun : TokenStart → (column : ℕ) → Rest → Rest
begun start column rest =
    if start.breaks then on_new_line (replicate (start.column - 8) space) rest
    else in_front (replicate (start.column - column) space) rest

-- the tokens that follow in a unit from this margin, above these lines
abbrev pub rest_of : (margin column : ℕ) (no_space_behind : Bool) → List TokenKind → List Row → Rest
rest_of margin column clinging [] below = record { here = []; below = below }
rest_of margin column clinging (token ∷ tokens) below =
    let start : TokenStart = start_of margin column clinging token (length (written token)) in
    begun start column (onto start.column false (written token)
    (rest_of margin (column_behind start.column false (written token)) (no_space_behind token)
    tokens below))

-- the first line of a unit, with its margin
abbrev pub first_line : (column : ℕ) → Rest → List Row
first_line column rest = Begins (replicate (column - 8) space ++ rest.here) ∷ rest.below

-- the lines of a unit, above these lines
abbrev pub unit_lines : (column : ℕ) → List TokenKind → List Row → List Row
unit_lines column [] below = below
unit_lines column (token ∷ tokens) below =
    first_line column (onto column false (written token)
    (rest_of column (column_behind column false (written token)) (no_space_behind token) tokens
    below))

-- ---- all units

-- the lines of the units
abbrev pub lines_of : List PrintUnit → List Row
lines_of [] = []
lines_of (unit ∷ units) = unit_lines unit.column unit.tokens (lines_of units)

-- the lines as a source
abbrev pub bytes_of_lines : List Row → List ℕ
bytes_of_lines rows = source_of (map row_line rows)

-- none of the lines begins a comment entry, where `over` says that a division header comes before
-- them
abbrev pub NoEntryRow : (over : Bool) → List Row → Type 0
NoEntryRow over rows = NoEntry over (map row_line rows)
