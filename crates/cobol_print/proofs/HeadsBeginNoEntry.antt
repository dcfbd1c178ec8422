-- The first lines of a program begin no comment entry.
use Rattle.std.proofs.Common.{inl, inr, ◌≡◌, ◌⊎◌, ℕ, ◌+◌, ◌≤◌, ◌<◌, ◌&&◌, ◌||◌, Bool, true, false, List, [], ◌∷◌, ◌++◌, length, sym, ap, subst, refl, ◌∙◌, arith}
use Rattle.std.specs.Prelude.{codes}
use Rattle.std.proofs.lemmas.Bool.Decides.{nat_tests}
use Rattle.ref_format.specs.Column.{card_of}
use Rattle.ref_format.specs.Entry.{is_comment_header, is_division, division_headers, comment_headers}
use Rattle.ref_format.specs.Row.{Begins, Row, row_line}
use Rattle.cobol_print.specs.Spacing.{fits, start_of}
use Rattle.cobol_print.specs.Line.{NoEntryRow, Rest, turned, next_column, onto, column_behind, begun, rest_of, lines_of}
use Rattle.cobol_print.specs.units.Unit.{header}
use Rattle.cobol_print.specs.units.Division.{program_id}
use Rattle.cobol_print.specs.Laws.{HeadsBeginNoEntry}
use Rattle.cobol_lex.specs.declared.token.TokenKind.TheVariants as kind
use Rattle.cobol_print.specs.declared.units.unit.PrintUnit.{PrintUnit}
use Rattle.cobol_print.proofs.PlacedLemmas.{in_line, next_is}

and-false : (x : Bool) → (x && false) ≡ false
and-false true = refl
and-false false = refl

or-true : (x : Bool) → (x || true) ≡ true
or-true true = refl
or-true false = refl

-- behind a division header no entry begins
over_all : (rows : List Row) → NoEntryRow true rows
over_all [] = tt
over_all (row ∷ rows) =
    (and-false (is_comment_header (card_of (row_line row))), subst (λ o. NoEntryRow o rows) (sym (or-true (is_division (card_of (row_line row))))) (over_all rows))

-- what fits on a line begins none below it
onto_fits : (bytes : List ℕ) (column : ℕ) (inside : Bool) (rest : Rest) → column + length bytes ≤ 73 →
    ((onto column inside bytes rest).below ≡ rest.below) × (column_behind column inside bytes ≡ column + length bytes)
onto_fits [] column inside rest room = (refl, omega arith)
onto_fits (b ∷ bytes) column inside rest room =
    let before : column < 73 = omega (arith, room) in
    let next : next_column column inside ≡ column + 1 = next_is 0 column b inside bytes before in
    let more = onto_fits bytes (column + 1) (turned inside b) rest (omega (arith, room)) in
    let below : (onto (next_column column inside) (turned inside b) bytes rest).below ≡ rest.below = ap (λ at. (onto at (turned inside b) bytes rest).below) next ∙ more.0 in (
      ap (λ r. r.below) (in_line 0 column b inside bytes before (onto (next_column column inside) (turned inside b) bytes rest)) ∙ below,
      ap (λ at. column_behind at (turned inside b) bytes) next ∙ more.1 ∙ omega arith,
    )

fit_is : (column size : ℕ) → column + size ≤ 73 → fits column size ≡ true
fit_is column size h = grind (arith, nat_tests, h)

-- a period that fits
period_below : (column : ℕ) (below : List Row) → column < 73 → (rest_of 8 column false (kind.Period ∷ []) below).below ≡ below
period_below column below room =
    let here : fits column 1 ≡ true = fit_is column 1 (omega (arith, room)) in
    let start : start_of 8 column false kind.Period 1 ≡ record { breaks = false; column = column } = rw here refl in
    let whole = onto_fits (46 ∷ []) column false (record { here = []; below = below }) (omega (arith, room)) in
    ap (λ s. (begun s column (onto s.column false (46 ∷ []) (record { here = []; below = below }))).below) start ∙ whole.0

name_below : (name : List ℕ) (below : List Row) → length name ≤ 30 → (rest_of 8 19 false (kind.Word name ∷ kind.Period ∷ []) below).below ≡ below
name_below name below short =
    let here : fits 20 (length name) ≡ true = fit_is 20 (length name) (omega (arith, short)) in
    let start : start_of 8 19 false (kind.Word name) (length name) ≡ record { breaks = false; column = 20 } = rw here refl in
    let rest : Rest = rest_of 8 (column_behind 20 false name) false (kind.Period ∷ []) below in
    let whole = onto_fits name 20 false rest (omega (arith, short)) in
    ap (λ s. (begun s 19 (onto s.column false name (rest_of 8 (column_behind s.column false name) false (kind.Period ∷ []) below))).below) start
    ∙ whole.0 ∙ period_below (column_behind 20 false name) below (omega (arith, whole.1, short))

-- the line of the program's name
name_line : (name : List ℕ) (units : List PrintUnit) → length name ≤ 30 → (text : List ℕ) × (lines_of (program_id name ∷ units) ≡ Begins (codes "PROGRAM-ID" ++ text) ∷ lines_of units)
name_line name units short =
    let rest : Rest = rest_of 8 19 false (kind.Word name ∷ kind.Period ∷ []) (lines_of units) in
    (46 ∷ rest.here, ap (λ below. Begins (codes "PROGRAM-ID" ++ 46 ∷ rest.here) ∷ below) (name_below name (lines_of units) short))

third : (word : List ℕ) (units : List PrintUnit) → (word ≡ codes "ENVIRONMENT") ⊎ ((word ≡ codes "DATA") ⊎ (word ≡ codes "PROCEDURE")) → NoEntryRow false (lines_of (header word (codes "DIVISION") ∷ units))
unfolding card_of comment_headers division_headers
third word units (inl e) = subst (λ w. NoEntryRow false (lines_of (header w (codes "DIVISION") ∷ units))) (sym e) (refl, over_all (lines_of units))
third word units (inr (inl e)) = subst (λ w. NoEntryRow false (lines_of (header w (codes "DIVISION") ∷ units))) (sym e) (refl, over_all (lines_of units))
third word units (inr (inr e)) = subst (λ w. NoEntryRow false (lines_of (header w (codes "DIVISION") ∷ units))) (sym e) (refl, over_all (lines_of units))

second : (text : List ℕ) (rows : List Row) → NoEntryRow false rows → NoEntryRow false (Begins (codes "PROGRAM-ID" ++ text) ∷ rows)
unfolding card_of comment_headers division_headers
second text rows more = (refl, more)

pub heads_begin_no_entry : HeadsBeginNoEntry
unfolding card_of comment_headers division_headers
heads_begin_no_entry name word units short is =
    let named = name_line name (header word (codes "DIVISION") ∷ units) short in
    (refl, subst (NoEntryRow false) (sym named.1) (second named.0 (lines_of (header word (codes "DIVISION") ∷ units)) (third word units is)))
