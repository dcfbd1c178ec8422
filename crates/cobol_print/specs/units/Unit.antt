-- Units, and where they begin.
use Rattle.std.specs.Prelude.{ℕ, ◌+◌, min, List, [], ◌∷◌, ◌++◌}
use Rattle.cobol_lex.specs.declared.token.TokenKind.TheVariants as kind
use Rattle.unparser.specs.Token.{Tokens, procedure_token}
use Rattle.cobol_print.specs.declared.units.unit.PrintUnit.{PrintUnit}

-- the unit of these tokens from this column on
abbrev pub unit_at : (column : ℕ) → Tokens → PrintUnit
unit_at column tokens = record { column = column; tokens = tokens }

-- the header of a division or a section
abbrev pub header : (first second : List ℕ) → PrintUnit
header first second = unit_at 8 (kind.Word first ∷ kind.Word second ∷ kind.Period ∷ [])

-- a header that begins with the name of a section
abbrev pub section_header : (name word : List ℕ) → PrintUnit
section_header name word =
    unit_at 8 (procedure_token name ∷ kind.Word word ∷ kind.Period ∷ [])

-- a header, and a name after it with a period of its own
abbrev pub naming_header : (word name : List ℕ) → PrintUnit
naming_header word name =
    unit_at 8 (kind.Word word ∷ kind.Period ∷ kind.Word name ∷ kind.Period ∷ [])

-- what a line holds begins four columns further right, in column 32 at most
abbrev pub deeper : (column : ℕ) → ℕ
deeper column = min (column + 4) 32

-- a period after the last unit
abbrev pub ended : List PrintUnit → List PrintUnit
ended [] = []
ended (unit ∷ []) = unit_at unit.column (unit.tokens ++ kind.Period ∷ []) ∷ []
ended (unit ∷ next ∷ units) = unit ∷ ended (next ∷ units)
