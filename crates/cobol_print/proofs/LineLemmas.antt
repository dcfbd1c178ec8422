-- The text of the lines of units.
use Rattle.std.proofs.Common.{inl, inr, ◌≡◌, ◌⊎◌, ℕ, zero, suc, ◌+◌, ◌-◌, ◌≤◌, ◌<◌, ◌==◌, ◌&&◌, ◌||◌, not, nat_le, Bool, true, false, cond, List, [], ◌∷◌, ◌++◌, length, take, drop, replicate, sym, ap, subst, refl, ◌∙◌, arith, append_assoc}
use Rattle.std.specs.Prelude.{All}
use Rattle.std.specs.List.{list_all}
use Rattle.std.proofs.lemmas.Bool.Decides.{nat_tests}
use Rattle.std.proofs.lemmas.List.{length-append, take-append-drop}
use Rattle.std.proofs.lemmas.List.Elements.{All-head, All-tail}
use Rattle.std.proofs.lemmas.List.Folds.{list_all-append}
use Rattle.std.proofs.lemmas.List.Sums.{list_all-from_AllPass}
use Rattle.cob_base.specs.Spelling.{word_byte}
use Rattle.cob_tree.specs.declared.number.Number.{Number}
use Rattle.ref_format.specs.declared.placed.Placed.{Placed}
use Rattle.ref_format.specs.declared.joining.Literal.TheVariants.{Closed}
use Rattle.ref_format.specs.Column.{is_blank, filled}
use Rattle.ref_format.specs.Placed.{placed}
use Rattle.ref_format.specs.Joining.{behind}
use Rattle.ref_format.specs.Plain.{IsPlainLine}
use Rattle.ref_format.specs.Row.{Begins, Row, rows_text, last_of, AreRows}
use Rattle.cobol_lex.specs.Byte.{is_quote, is_digit, is_mark}
use Rattle.cobol_lex.specs.Awaits.{awaits_behind}
use Rattle.cobol_lex.specs.Written.{written, doubled, pointed, sign_of, AreDigits, IsPlainToken, IsLawful}
use Rattle.cobol_print.specs.Spacing.{hugs, no_space_behind, is_literal, fits, column_of, start_of}
use Rattle.cobol_print.specs.Line.{next_column, turned, Rest, in_front, on_new_line, onto, column_behind, begun, rest_of, unit_lines, lines_of}
use Rattle.cobol_print.specs.Printed.{line_behind, start_line}
use Rattle.cobol_print.specs.Unit.{is_ink, IsSized, IsUnit, BeginsWell, AreLawfulKinds, all_tokens}
use Rattle.cobol_lex.specs.declared.awaits.Awaits.{Awaits}
use Rattle.cobol_lex.specs.declared.awaits.Awaits.TheVariants as awaits
use Rattle.cobol_lex.specs.declared.token.TokenKind.{TokenKind}
use Rattle.cobol_lex.specs.declared.token.TokenKind.TheVariants as kind
use Rattle.cobol_print.specs.declared.spacing.TokenStart.{TokenStart}
use Rattle.cobol_print.specs.declared.units.unit.PrintUnit.{PrintUnit}
use Rattle.std.specs.Prelude.{if◌then◌else◌}
use Rattle.cobol_print.proofs.PlacedLemmas.{Reads, piece, within, next_within, in_line, literal_reads, word_reads, new_line_reads, line_plain, line_below, line_reads}

-- what a token is written with, where it is no literal: bytes that can be printed
record IsInk (bytes : List ℕ) : Type 0 where
  some : 0 < length bytes
  ink : list_all is_ink bytes ≡ true

pub both_true : (x y : Bool) → x ≡ true → y ≡ true → (x && y) ≡ true
both_true true y h g = g
both_true false y h g = h

pub first_true : (x y : Bool) → (x && y) ≡ true → x ≡ true
first_true true y h = refl
first_true false y h = h

pub rest_true : (x y : Bool) → (x && y) ≡ true → y ≡ true
rest_true true y h = h
rest_true false y h = absurd (cc)

all_weaker : (p q : ℕ → Bool) → ((b : ℕ) → p b ≡ true → q b ≡ true) → (bytes : List ℕ) → list_all p bytes ≡ true → list_all q bytes ≡ true
all_weaker p q h [] e = refl
all_weaker p q h (b ∷ bytes) e = both_true (q b) (list_all q bytes) (h b (first_true (p b) (list_all p bytes) e)) (all_weaker p q h bytes (rest_true (p b) (list_all p bytes) e))

word_ink : (b : ℕ) → word_byte b ≡ true → is_ink b ≡ true
word_ink b h = grind (arith, nat_tests, h)

digit_ink : (b : ℕ) → is_digit b ≡ true → is_ink b ≡ true
digit_ink b h = grind (arith, nat_tests, h)

mark_ink : (b : ℕ) → is_mark b ≡ true → is_ink b ≡ true
mark_ink b h = grind (arith, nat_tests, h)

digits_ink : (digits : List ℕ) → AreDigits digits → IsInk digits
digits_ink digits are = record { some = are.some; ink = all_weaker is_digit is_ink digit_ink digits are.digits_only }

ink_append : (front rest : List ℕ) → list_all is_ink front ≡ true → list_all is_ink rest ≡ true → list_all is_ink (front ++ rest) ≡ true
ink_append front rest h g = list_all-append is_ink front rest ∙ both_true (list_all is_ink front) (list_all is_ink rest) h g

pointed_ink : (scale : ℕ) (digits : List ℕ) → IsInk digits → IsInk (pointed scale digits)
pointed_ink scale digits is =
    let at : ℕ = length digits - scale in
    let apart : (list_all is_ink (take at digits) && list_all is_ink (drop at digits)) ≡ true = sym (list_all-append is_ink (take at digits) (drop at digits)) ∙ ap (list_all is_ink) (take-append-drop at digits) ∙ is.ink in
    elim (scale == 0) as (λ t. IsInk (cond t digits (take at digits ++ 46 ∷ drop at digits))) [
      | true ↦ is
      | false ↦ record {
        some = omega (arith, length-append (take at digits) (46 ∷ drop at digits));
        ink = ink_append (take at digits) (46 ∷ drop at digits) (first_true _ _ apart) (rest_true (list_all is_ink (take at digits)) _ apart);
      }
    ]

sign_ink : (number : Number) → list_all is_ink (sign_of number) ≡ true
sign_ink number =
    elim number.negative as (λ t. list_all is_ink (cond t (45 ∷ []) (cond (number.scale == 0) (43 ∷ []) [])) ≡ true) [
      | true ↦ refl
      | false ↦ elim (number.scale == 0) as (λ t. list_all is_ink (cond t (43 ∷ []) []) ≡ true) [ true ↦ refl | false ↦ refl ]
    ]

plain_ink : (token : TokenKind) → IsPlainToken token → is_literal token ≡ false → IsInk (written token)
plain_ink (kind.Word word) plain no_literal = record {
  some = plain.0.word.begun;
  ink = all_weaker word_byte is_ink word_ink word (list_all-from_AllPass word_byte word plain.0.word.spelled);
}
plain_ink (kind.Digits digits) plain no_literal = digits_ink digits plain
plain_ink (kind.Decimal number) plain no_literal =
    let body : IsInk (pointed number.scale number.digits) = pointed_ink number.scale number.digits (digits_ink number.digits plain.0) in
    record {
      some = omega (arith, length-append (sign_of number) (pointed number.scale number.digits), body.some);
      ink = ink_append (sign_of number) (pointed number.scale number.digits) (sign_ink number) body.ink;
    }
plain_ink (kind.Literal value) plain no_literal = absurd (cc)
plain_ink (kind.Picture picture) plain no_literal = absurd plain
plain_ink kind.Period plain no_literal = record { some = omega arith; ink = refl }
plain_ink (kind.Mark b) plain no_literal = record { some = omega arith; ink = both_true (is_ink b) true (mark_ink b plain) refl }
plain_ink kind.LessEqual plain no_literal = record { some = omega arith; ink = refl }
plain_ink kind.GreaterEqual plain no_literal = record { some = omega arith; ink = refl }
plain_ink kind.Power plain no_literal = record { some = omega arith; ink = refl }

token_ink : (margin : ℕ) (awaits : Awaits) (token : TokenKind) → IsLawful awaits token → IsSized margin token → is_literal token ≡ false → IsInk (written token)
token_ink margin awaits.Any token lawful sized no_literal = plain_ink token lawful no_literal
token_ink margin awaits.PictureOrIs (kind.Word word) lawful sized no_literal = subst (λ w. IsInk w) (sym lawful) (record { some = omega arith; ink = refl })
token_ink margin awaits.PictureOrIs (kind.Picture picture) lawful sized no_literal = record { some = lawful.0.some; ink = sized.1 }
token_ink margin awaits.Picture (kind.Picture picture) lawful sized no_literal = record { some = lawful.some; ink = sized.1 }
token_ink margin _ _ lawful sized no_literal = absurd lawful

-- how wide a token is at most
pub sized_width : (margin : ℕ) (token : TokenKind) → IsSized margin token → is_literal token ≡ false → margin + 4 + length (written token) ≤ 73
sized_width margin (kind.Word word) sized no_literal = sized
sized_width margin (kind.Digits digits) sized no_literal = sized
sized_width margin (kind.Decimal number) sized no_literal = sized
sized_width margin (kind.Literal value) sized no_literal = absurd (cc)
sized_width margin (kind.Picture picture) sized no_literal = sized.0
sized_width margin kind.Period sized no_literal = sized
sized_width margin (kind.Mark b) sized no_literal = sized
sized_width margin kind.LessEqual sized no_literal = sized
sized_width margin kind.GreaterEqual sized no_literal = sized
sized_width margin kind.Power sized no_literal = sized

-- a token begins at such a column
pub record HasRoom (token : TokenKind) (column : ℕ) : Type 0 where
  pub begins : column < 73
  pub ends : is_literal token ≡ false → column + length (written token) ≤ 73

-- it stands there, whatever follows
other_reads : (margin : ℕ) (awaits : Awaits) (token : TokenKind) (line column : ℕ) (rest : Rest) (text : List Placed) → is_literal token ≡ false → IsLawful awaits token → IsSized margin token → HasRoom token column →
    ((last : ℕ) → Reads (line_behind line column false (written token)) (column_behind column false (written token)) Closed last rest text) →
    (last : ℕ) → Reads line column Closed last (onto column false (written token) rest) (piece line column false (written token) ++ text)
other_reads margin awaits token line column rest text no_literal lawful sized room more last =
    word_reads (written token) line column last rest text (room.ends no_literal) (token_ink margin awaits token lawful sized no_literal).ink more

token_reads : (margin : ℕ) (awaits : Awaits) (token : TokenKind) (line column : ℕ) (rest : Rest) (text : List Placed) → IsLawful awaits token → IsSized margin token → HasRoom token column →
    ((last : ℕ) → Reads (line_behind line column false (written token)) (column_behind column false (written token)) Closed last rest text) →
    (last : ℕ) → Reads line column Closed last (onto column false (written token) rest) (piece line column false (written token) ++ text)
token_reads margin awaits (kind.Literal value) line column rest text lawful sized room more last = literal_reads value line column last rest text room.begins sized (more 34)
token_reads margin awaits token line column rest text lawful sized room more last = other_reads margin awaits token line column rest text refl lawful sized room more last

-- the line isn't blank with it
here_some : (b : ℕ) (bytes : List ℕ) (column : ℕ) (rest : Rest) → column < 73 → (b == 32) ≡ false → is_blank (onto column false (b ∷ bytes) rest).here ≡ false
here_some b bytes column rest room other =
    let more : Rest = onto (next_column column false) (turned false b) bytes rest in
    let here : is_blank (b ∷ more.here) ≡ false = rw other refl in
    ap (λ r. is_blank r.here) (in_line 0 column b false bytes room more) ∙ here

ink_some : (bytes : List ℕ) (column : ℕ) (rest : Rest) → column < 73 → IsInk bytes → is_blank (onto column false bytes rest).here ≡ false
ink_some [] column rest room is = absurd (omega (arith, is.some))
ink_some (b ∷ bytes) column rest room is =
    here_some b bytes column rest room (no_space b (first_true (nat_le 33 b) (not (is_quote b)) (first_true (is_ink b) (list_all is_ink bytes) is.ink)))
  where
    no_space : (b : ℕ) → nat_le 33 b ≡ true → (b == 32) ≡ false
    no_space b h = grind (arith, nat_tests, h)

token_some : (margin : ℕ) (awaits : Awaits) (token : TokenKind) (column : ℕ) (rest : Rest) → IsLawful awaits token → IsSized margin token → column < 73 → is_blank (onto column false (written token) rest).here ≡ false
token_some margin awaits (kind.Literal value) column rest lawful sized room = here_some 34 (doubled value ++ 34 ∷ []) column rest room refl
token_some margin awaits token column rest lawful sized room = ink_some (written token) column rest room (token_ink margin awaits token lawful sized refl)

-- where a token can begin: on this line, or on a new one
pub Broken : (margin : ℕ) → TokenKind → (size column : ℕ) → Type 0
Broken margin token size column = ((column ≡ 12) × (is_literal token ≡ true)) ⊎ ((column ≡ margin + 4) × ((is_literal token ≡ false) ⊎ (fits (margin + 4) size ≡ true)))

pub start_cases : (P : TokenStart → Type 0) (margin column : ℕ) (clinging : Bool) (token : TokenKind) (size : ℕ) →
    (fits (column_of column clinging token) size ≡ true → P (record { breaks = false; column = column_of column clinging token })) →
    ((at : ℕ) → Broken margin token size at → P (record { breaks = true; column = at })) →
    P (start_of margin column clinging token size)
unfolding Broken
start_cases P margin column clinging token size here below =
    let wide : TokenStart = record { breaks = true; column = 12 } in
    let narrow : TokenStart = record { breaks = true; column = margin + 4 } in
    elim (fits (column_of column clinging token) size)
    as (λ t. fits (column_of column clinging token) size ≡ t → P (cond t (record { breaks = false; column = column_of column clinging token }) (cond (is_literal token && not (fits (margin + 4) size)) wide narrow))) [
      | true ↦ here
      | false ↦ λ _. elim (is_literal token && not (fits (margin + 4) size)) as (λ t. (is_literal token && not (fits (margin + 4) size)) ≡ t → P (cond t wide narrow)) [
        | true ↦ λ e. below 12 (inl (refl, first_true (is_literal token) (not (fits (margin + 4) size)) e))
        | false ↦ λ e. below (margin + 4) (inr (refl, either (is_literal token) (fits (margin + 4) size) e))
      ] refl
    ] refl
  where
    either : (x y : Bool) → (x && not y) ≡ false → (x ≡ false) ⊎ (y ≡ true)
    either false y e = inl refl
    either true true e = inr refl
    either true false e = absurd (cc)

pub fits_is : (column size : ℕ) → fits column size ≡ true → column + size ≤ 73
fits_is column size h = grind (arith, nat_tests, h)

pub written_some : (margin : ℕ) (awaits : Awaits) (token : TokenKind) → IsLawful awaits token → IsSized margin token → 0 < length (written token)
written_some margin awaits (kind.Literal value) lawful sized = omega arith
written_some margin awaits token lawful sized = (token_ink margin awaits token lawful sized refl).some

pub broken_room : (margin : ℕ) (awaits : Awaits) (token : TokenKind) (at : ℕ) → 8 ≤ margin → IsLawful awaits token → IsSized margin token → Broken margin token (length (written token)) at → (8 ≤ at) × HasRoom token at
unfolding Broken
broken_room margin awaits token at low lawful sized (inl wide) = (omega (arith, wide.0), record { begins = omega (arith, wide.0); ends = λ no. absurd (cc) })
broken_room margin awaits token at low lawful sized (inr (e, inl no_literal)) =
    let width = sized_width margin token sized no_literal in
    let some = written_some margin awaits token lawful sized in
    (omega (arith, e, low), record { begins = omega (arith, e, width, some); ends = λ no. omega (arith, e, width) })
broken_room margin awaits token at low lawful sized (inr (e, inr fit)) =
    let width = fits_is (margin + 4) (length (written token)) fit in
    let some = written_some margin awaits token lawful sized in
    (omega (arith, e, low), record { begins = omega (arith, e, width, some); ends = λ no. omega (arith, e, width) })

pub behind_within : (bytes : List ℕ) (column : ℕ) (inside : Bool) → column ≤ 73 → column_behind column inside bytes ≤ 73
behind_within [] column inside h = h
behind_within (b ∷ bytes) column inside h = behind_within bytes (next_column column inside) (turned inside b) (next_within column inside h)

-- the spaces up to column 72
abbrev pub pad : (line column : ℕ) → List Placed
pad line column = placed line (replicate (73 - column) 32)

abbrev pub gap_placed : (line column : ℕ) → TokenStart → List Placed
gap_placed line column start =
    if start.breaks then pad line column ++ (placed line (10 ∷ []) ++ placed (line + 1) (replicate (start.column - 8) 32))
    else placed line (replicate (start.column - column) 32)

-- the text of the tokens that follow in a unit, and of what stands below it
abbrev pub rest_placed : (line margin column : ℕ) (no_space_behind : Bool) → List TokenKind → (after : ℕ → List Placed) → List Placed
rest_placed line margin column clinging [] after = pad line column ++ after line
rest_placed line margin column clinging (token ∷ tokens) after =
    let start : TokenStart = start_of margin column clinging token (length (written token)) in
    gap_placed line column start ++ (piece (start_line line start) start.column false (written token)
    ++ rest_placed (line_behind (start_line line start) start.column false (written token)) margin
    (column_behind start.column false (written token)) (no_space_behind token) tokens after)

behind_only : (n : ℕ) → behind Closed (replicate n 32) ≡ Closed
behind_only zero = refl
behind_only (suc n) = behind_only n

module _ (margin : ℕ) (low : 8 ≤ margin) (below : List Row) (after : ℕ → List Placed) (ready : (last : ℕ) → AreRows Closed last below) (reads : (line : ℕ) → rows_text line Closed below ≡ after line) where
  end_reads : (line column : ℕ) → column ≤ 73 → (last : ℕ) → Reads line column Closed last (record { here = []; below = below }) (pad line column ++ after line)
  end_reads line column room last = record {
    short = omega (arith, room);
    printable = refl;
    below = subst (λ l. AreRows l (last_of last (replicate (73 - column - 0) 32)) below) (sym (behind_only (73 - column - 0))) (ready (last_of last (replicate (73 - column - 0) 32)));
    reads = ap (λ l. placed line (replicate (73 - column - 0) 32) ++ rows_text line l below) (behind_only (73 - column - 0))
        ∙ ap (λ t. placed line (replicate (73 - column - 0) 32) ++ t) (reads line)
        ∙ ap (λ n. placed line (replicate n 32) ++ after line) (omega arith);
  }

  -- a token at its start, where it stands there with what follows
  Standing : (line column : ℕ) → Rest → List Placed → Type 0
  Standing line column rest text = (last : ℕ) → Reads line column Closed last rest text

  spaced_reads : (line column : ℕ) (t : Bool) (rest : Rest) (text : List Placed) → column ≤ 73 → (cond t column (column + 1) ≤ 73) → Standing line (cond t column (column + 1)) rest text →
      Standing line column (in_front (replicate (cond t column (column + 1) - column) 32) rest) (placed line (replicate (cond t column (column + 1) - column) 32) ++ text)
  unfolding Standing
  spaced_reads line column true rest text room fit more last =
      let none : 0 ≡ column - column = omega arith in
      subst (λ n. Reads line column Closed last (in_front (replicate n 32) rest) (placed line (replicate n 32) ++ text)) none (more last)
  spaced_reads line column false rest text room fit more last =
      let one : 1 ≡ column + 1 - column = omega arith in
      subst (λ n. Reads line column Closed last (in_front (replicate n 32) rest) (placed line (replicate n 32) ++ text)) one
      (within line column 32 Closed last rest text (omega (arith, fit)) (omega arith) (more 32))

  rest_reads : (tokens : List TokenKind) (line column : ℕ) (clinging : Bool) (awaits : Awaits) (more : List TokenKind) → column ≤ 73 → AreLawfulKinds awaits (tokens ++ more) → All (IsSized margin) tokens →
      (last : ℕ) → Reads line column Closed last (rest_of margin column clinging tokens below) (rest_placed line margin column clinging tokens after)
  unfolding Standing
  rest_reads [] line column clinging awaits more room lawful sized last = end_reads line column room last
  rest_reads (token ∷ tokens) line column clinging awaits more room lawful sized last =
      let w : List ℕ = written token in
      let token_sized : IsSized margin token = All-head (IsSized margin) token tokens sized in
      let there : (on at : ℕ) → HasRoom token at → Standing on at (onto at false w (rest_of margin (column_behind at false w) (no_space_behind token) tokens below))
      (piece on at false w ++ rest_placed (line_behind on at false w) margin (column_behind at false w) (no_space_behind token) tokens after) =
      λ on at has. token_reads margin awaits token on at _ _ lawful.0 token_sized has
      (rest_reads tokens (line_behind on at false w) (column_behind at false w) (no_space_behind token) (awaits_behind awaits token) more
      (behind_within w at false (omega (arith, has.begins))) lawful.1 (All-tail (IsSized margin) token tokens sized)) in
      start_cases
      (λ start. Reads line column Closed last
      (begun start column (onto start.column false w (rest_of margin (column_behind start.column false w) (no_space_behind token) tokens below)))
      (gap_placed line column start ++ (piece (start_line line start) start.column false w
      ++ rest_placed (line_behind (start_line line start) start.column false w) margin (column_behind start.column false w) (no_space_behind token) tokens after)))
      margin column clinging token (length w)
      (λ fit.
      let at : ℕ = column_of column clinging token in
      let width : at + length w ≤ 73 = fits_is at (length w) fit in
      let some : 0 < length w = written_some margin awaits token lawful.0 token_sized in
      let has : HasRoom token at = record { begins = omega (arith, width, some); ends = λ no. width } in
      spaced_reads line column (clinging || hugs token) _ _ room (omega (arith, width)) (there line at has) last)
      (λ at broken.
      let has = broken_room margin awaits token at low lawful.0 token_sized broken in
      let rest : Rest = onto at false w (rest_of margin (column_behind at false w) (no_space_behind token) tokens below) in
      let text : List Placed = piece (line + 1) at false w ++ rest_placed (line_behind (line + 1) at false w) margin (column_behind at false w) (no_space_behind token) tokens after in
      subst (λ t. Reads line column Closed last (on_new_line (replicate (at - 8) 32) rest) t)
      (sym (append_assoc (pad line column) (placed line (10 ∷ []) ++ placed (line + 1) (replicate (at - 8) 32)) text ∙ ap (λ t. pad line column ++ t) (append_assoc (placed line (10 ∷ [])) (placed (line + 1) (replicate (at - 8) 32)) text)))
      (new_line_reads line column last at rest text room has.0 (token_some margin awaits token at _ lawful.0 token_sized has.1.begins) (there (line + 1) at has.1 32)))

-- the text of a unit below this line, and of what stands below it
abbrev pub unit_placed : (line column : ℕ) → List TokenKind → (after : ℕ → List Placed) → List Placed
unit_placed line column [] after = []
unit_placed line column (token ∷ tokens) after =
    piece line column false (written token)
    ++ rest_placed (line_behind line column false (written token)) column (column_behind column false (written token)) (no_space_behind token) tokens after

abbrev pub units_placed : (line : ℕ) → List PrintUnit → List Placed
units_placed line [] = []
units_placed line (unit ∷ units) =
    placed line (10 ∷ []) ++ (placed (line + 1) (replicate (unit.column - 8) 32)
    ++ unit_placed (line + 1) unit.column unit.tokens (λ on. units_placed on units))

pub begins_plain : (token : TokenKind) (tokens : List TokenKind) → BeginsWell (token ∷ tokens) → is_literal token ≡ false
begins_plain (kind.Literal value) tokens begins = absurd begins
begins_plain token tokens begins = refl

-- the first line of a unit
pub record IsFirst (column : ℕ) (tokens : List TokenKind) (below : List Row) (after : ℕ → List Placed) : Type 0 where
  pub text : List ℕ
  pub rows : List Row
  pub lines : unit_lines column tokens below ≡ Begins text ∷ rows
  pub plain : IsPlainLine text
  pub are : AreRows (behind Closed (filled 65 text)) (last_of 32 (filled 65 text)) rows
  pub reads : (line : ℕ) → placed line (filled 65 text) ++ rows_text line (behind Closed (filled 65 text)) rows ≡ placed line (replicate (column - 8) 32) ++ unit_placed line column tokens after

pub unit_reads : (column : ℕ) (tokens : List TokenKind) (below : List Row) (after : ℕ → List Placed) (awaits : Awaits) (more : List TokenKind) →
    ((last : ℕ) → AreRows Closed last below) → ((line : ℕ) → rows_text line Closed below ≡ after line) →
    8 ≤ column → BeginsWell tokens → All (IsSized column) tokens → AreLawfulKinds awaits (tokens ++ more) → IsFirst column tokens below after
unit_reads column [] below after awaits more ready reads low begins sized lawful = absurd begins
unit_reads column (token ∷ tokens) below after awaits more ready reads low begins sized lawful =
    let w : List ℕ = written token in
    let first : IsSized column token = All-head (IsSized column) token tokens sized in
    let width : column + 4 + length w ≤ 73 = sized_width column token first (begins_plain token tokens begins) in
    let some : 0 < length w = written_some column awaits token lawful.0 first in
    let has : HasRoom token column = record { begins = omega (arith, width, some); ends = λ no. omega (arith, width) } in
    let rest : Rest = onto column false w (rest_of column (column_behind column false w) (no_space_behind token) tokens below) in
    let stands : (line : ℕ) → Reads line column Closed 32 rest (unit_placed line column (token ∷ tokens) after) =
    λ line. token_reads column awaits token line column _ _ lawful.0 first has
    (rest_reads column low below after ready reads tokens (line_behind line column false w) (column_behind column false w) (no_space_behind token) (awaits_behind awaits token) more
    (behind_within w column false (omega (arith, width))) lawful.1 (All-tail (IsSized column) token tokens sized)) 32 in
    let filled_line : is_blank rest.here ≡ false = token_some column awaits token column _ lawful.0 first has.begins in
    record {
      text = replicate (column - 8) 32 ++ rest.here;
      rows = rest.below;
      lines = refl;
      plain = line_plain 0 column rest (unit_placed 0 column (token ∷ tokens) after) low filled_line (stands 0);
      are = line_below 0 column rest (unit_placed 0 column (token ∷ tokens) after) low filled_line (stands 0);
      reads = λ line. line_reads line column rest (unit_placed line column (token ∷ tokens) after) low filled_line (stands line);
    }

-- what tokens leave to those behind them
pub lawful_behind : (tokens more : List TokenKind) (awaits : Awaits) → AreLawfulKinds awaits (tokens ++ more) → (next : Awaits) × AreLawfulKinds next more
lawful_behind [] more awaits lawful = (awaits, lawful)
lawful_behind (token ∷ tokens) more awaits lawful = lawful_behind tokens more (awaits_behind awaits token) lawful.1

-- the lines of units, below some line
pub record AreRead (units : List PrintUnit) : Type 0 where
  pub ready : (last : ℕ) → AreRows Closed last (lines_of units)
  pub reads : (line : ℕ) → rows_text line Closed (lines_of units) ≡ units_placed line units

pub units_read : (units : List PrintUnit) (awaits : Awaits) → All IsUnit units → AreLawfulKinds awaits (all_tokens units) → AreRead units
units_read [] awaits are lawful = record { ready = λ last. tt; reads = λ line. refl }
units_read (unit ∷ units) awaits are lawful =
    let is : IsUnit unit = All-head IsUnit unit units are in
    let behind_it = lawful_behind unit.tokens (all_tokens units) awaits lawful in
    let later : AreRead units = units_read units behind_it.0 (All-tail IsUnit unit units are) behind_it.1 in
    let first : IsFirst unit.column unit.tokens (lines_of units) (λ on. units_placed on units) =
    unit_reads unit.column unit.tokens (lines_of units) (λ on. units_placed on units) awaits (all_tokens units) later.ready later.reads is.low is.begins is.sized lawful in
    record {
      ready = λ last. subst (λ rows. AreRows Closed last rows) (sym first.lines) (first.plain, first.are);
      reads = λ line. ap (rows_text line Closed) first.lines
          ∙ append_assoc (placed line (10 ∷ [])) (placed (line + 1) (filled 65 first.text)) (rows_text (line + 1) (behind Closed (filled 65 first.text)) first.rows)
          ∙ ap (λ t. placed line (10 ∷ []) ++ t) (first.reads (line + 1));
    }
