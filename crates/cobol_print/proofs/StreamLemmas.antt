-- The lines of units are what is written, byte for byte.
use Rattle.std.proofs.Common.{◌≡◌, ◌≤◌, ℕ, ◌+◌, ◌-◌, ◌==◌, Bool, true, false, cond, List, [], ◌∷◌, ◌++◌, length, replicate, sym, ap, refl, ◌∙◌, append_assoc, arith}
use Rattle.std.proofs.lemmas.Bool.{ne_eqb}
use Rattle.ref_format.specs.Row.{Row}
use Rattle.cobol_lex.specs.Written.{written}
use Rattle.cobol_print.specs.Spacing.{no_space_behind, start_of}
use Rattle.cobol_print.specs.Line.{bytes_of_lines, Rest, in_front, on_new_line, continued, mark_again, turned, byte_onto, next_column, onto, column_behind, begun, rest_of, unit_lines, lines_of}
use Rattle.cobol_print.specs.Layout.{continuation, byte_bytes, spread, start_bytes, rest_bytes, unit_bytes, units_bytes}
use Rattle.cobol_lex.specs.declared.token.TokenKind.{TokenKind}
use Rattle.cobol_print.specs.declared.spacing.TokenStart.{TokenStart}
use Rattle.cobol_print.specs.declared.units.unit.PrintUnit.{PrintUnit}

-- the bytes of what stands from some column on
abbrev pub bytes_from : Rest → List ℕ
bytes_from rest = rest.here ++ 10 ∷ bytes_of_lines rest.below

byte-bytes : (column : ℕ) (inside : Bool) (b : ℕ) (rest : Rest) → bytes_from (byte_onto column inside b rest) ≡ byte_bytes column inside b ++ bytes_from rest
byte-bytes column inside b rest =
    elim (column == 73) as (λ t. bytes_from (cond t (continued (mark_again inside ++ b ∷ []) rest) (in_front (b ∷ []) rest)) ≡ cond t (continuation ++ mark_again inside ++ b ∷ []) (b ∷ []) ++ bytes_from rest)
    [ true ↦ again inside | false ↦ refl ]
  where
    again : (inside : Bool) → bytes_from (continued (mark_again inside ++ b ∷ []) rest) ≡ (continuation ++ mark_again inside ++ b ∷ []) ++ bytes_from rest
    again true = refl
    again false = refl

onto-bytes : (column : ℕ) (inside : Bool) (bytes : List ℕ) (rest : Rest) → bytes_from (onto column inside bytes rest) ≡ spread column inside bytes ++ bytes_from rest
onto-bytes column inside [] rest = refl
onto-bytes column inside (b ∷ bytes) rest =
    let more : Rest = onto (next_column column inside) (turned inside b) bytes rest in
    byte-bytes column inside b more
    ∙ ap (λ t. byte_bytes column inside b ++ t) (onto-bytes (next_column column inside) (turned inside b) bytes rest)
    ∙ sym (append_assoc (byte_bytes column inside b) (spread (next_column column inside) (turned inside b) bytes) (bytes_from rest))

begun-bytes : (start : TokenStart) (column : ℕ) (rest : Rest) → bytes_from (begun start column rest) ≡ start_bytes start column ++ bytes_from rest
begun-bytes start column rest =
    elim start.breaks as (λ t. bytes_from (cond t (on_new_line (replicate (start.column - 8) 32) rest) (in_front (replicate (start.column - column) 32) rest)) ≡ cond t (10 ∷ replicate 7 32 ++ replicate (start.column - 8) 32) (replicate (start.column - column) 32) ++ bytes_from rest) [
      | true ↦ ap (λ t. 10 ∷ 32 ∷ 32 ∷ 32 ∷ 32 ∷ 32 ∷ 32 ∷ 32 ∷ t) (append_assoc (replicate (start.column - 8) 32) rest.here (10 ∷ bytes_of_lines rest.below))
      | false ↦ append_assoc (replicate (start.column - column) 32) rest.here (10 ∷ bytes_of_lines rest.below)
    ]

rest-bytes : (margin column : ℕ) (clinging : Bool) (tokens : List TokenKind) (below : List Row) → bytes_from (rest_of margin column clinging tokens below) ≡ rest_bytes margin column clinging tokens ++ bytes_of_lines below
rest-bytes margin column clinging [] below = refl
rest-bytes margin column clinging (token ∷ tokens) below =
    let bytes : List ℕ = written token in
    let start : TokenStart = start_of margin column clinging token (length bytes) in
    let after : ℕ = column_behind start.column false bytes in
    let rest : Rest = rest_of margin after (no_space_behind token) tokens below in
    begun-bytes start column (onto start.column false bytes rest)
    ∙ ap (λ t. start_bytes start column ++ t) (onto-bytes start.column false bytes rest)
    ∙ ap (λ t. start_bytes start column ++ (spread start.column false bytes ++ t)) (rest-bytes margin after (no_space_behind token) tokens below)
    ∙ simp append_assoc

unit-bytes : (column : ℕ) (tokens : List TokenKind) (below : List Row) → bytes_of_lines (unit_lines column tokens below) ≡ unit_bytes column tokens ++ bytes_of_lines below
unit-bytes column [] below = refl
unit-bytes column (token ∷ tokens) below =
    let bytes : List ℕ = written token in
    let after : ℕ = column_behind column false bytes in
    let rest : Rest = rest_of column after (no_space_behind token) tokens below in
    let front : List ℕ = replicate 7 32 ++ replicate (column - 8) 32 in
    let whole : bytes_of_lines (unit_lines column (token ∷ tokens) below) ≡ front ++ bytes_from (onto column false bytes rest) =
    ap (λ t. 32 ∷ 32 ∷ 32 ∷ 32 ∷ 32 ∷ 32 ∷ 32 ∷ t) (append_assoc (replicate (column - 8) 32) (onto column false bytes rest).here (10 ∷ bytes_of_lines (onto column false bytes rest).below)) in
    whole
    ∙ ap (λ t. front ++ t) (onto-bytes column false bytes rest)
    ∙ ap (λ t. front ++ (spread column false bytes ++ t)) (rest-bytes column after (no_space_behind token) tokens below)
    ∙ simp append_assoc

pub lines-bytes : (units : List PrintUnit) → bytes_of_lines (lines_of units) ≡ units_bytes units
lines-bytes [] = refl
lines-bytes (unit ∷ units) =
    unit-bytes unit.column unit.tokens (lines_of units) ∙ ap (λ t. unit_bytes unit.column unit.tokens ++ t) (lines-bytes units)

-- What fits on its line stands there as it is.

room_here : (column rest : ℕ) → column + (1 + rest) ≤ 73 → (column == 73) ≡ false
room_here column rest fits = ne_eqb column 73 (omega (arith, fits))

pub spread_fits : (column : ℕ) (inside : Bool) (bytes : List ℕ) → column + length bytes ≤ 73 → spread column inside bytes ≡ bytes
spread_fits column inside [] fits = refl
spread_fits column inside (b ∷ bytes) fits =
    rw (room_here column (length bytes) (omega (arith, fits))) (ap (λ t. b ∷ t) (spread_fits (column + 1) (turned inside b) bytes (omega (arith, fits))))

pub column_fits : (column : ℕ) (inside : Bool) (bytes : List ℕ) → column + length bytes ≤ 73 → column_behind column inside bytes ≡ column + length bytes
column_fits column inside [] fits = omega arith
column_fits column inside (b ∷ bytes) fits =
    let more = column_fits (column + 1) (turned inside b) bytes (omega (arith, fits)) in
    rw (room_here column (length bytes) (omega (arith, fits))) (omega (arith, more))
