-- The tokens of the text of units.
use Rattle.std.proofs.Common.{inl, inr, ◌≡◌, ℕ, zero, suc, ◌+◌, ◌-◌, ◌≤◌, ◌<◌, ◌==◌, ◌||◌, not, Bool, true, false, cond, List, [], ◌∷◌, ◌++◌, length, map, take, replicate, Ok, sym, ap, subst, refl, ◌∙◌, arith, append_assoc}
use Rattle.std.specs.Prelude.{All}
use Rattle.std.specs.List.{list_all}
use Rattle.std.proofs.lemmas.Bool.Decides.{nat_tests}
use Rattle.std.proofs.lemmas.List.Elements.{All-head, All-tail}
use Rattle.ref_format.specs.declared.placed.Placed.{Placed}
use Rattle.ref_format.specs.Line.{kept_lines}
use Rattle.ref_format.specs.Placed.{placed, bytes_of}
use Rattle.ref_format.specs.Joining.{program_text}
use Rattle.ref_format.specs.Row.{text_of_rows}
use Rattle.ref_format.specs.Laws.{RowsAreRead}
use Rattle.cobol_lex.specs.Byte.{is_digit, is_separator, leads_sign, begins}
use Rattle.cobol_lex.specs.Awaits.{awaits_behind}
use Rattle.cobol_lex.specs.Token.{tokens_of}
use Rattle.cobol_lex.specs.Written.{written, runs_on, stands_alone, ends_picture_run, is_open, IsLawful, SignCounts}
use Rattle.cobol_lex.specs.Laid.{Laid, IsLaid, AreLaid, Ends, laid_text, last_byte}
use Rattle.cobol_lex.specs.Laws.{LaidReadsBack}
use Rattle.cobol_print.specs.Spacing.{hugs, no_space_behind, column_of, start_of}
use Rattle.cobol_print.specs.Line.{bytes_of_lines, NoEntryRow, turned, next_column, column_behind, lines_of}
use Rattle.cobol_print.specs.Printed.{next_line, line_behind, start_line, rest_tokens, rest_line, unit_tokens, unit_line, printed_tokens}
use Rattle.cobol_print.specs.Unit.{all_tokens, AreLawfulKinds, IsSized, may_meet, MayMeet, BeginsWell, IsUnit}
use Rattle.cobol_print.specs.Laws.{PrintedReadsBack}
use Rattle.cobol_lex.specs.declared.awaits.Awaits.{Awaits}
use Rattle.cobol_lex.specs.declared.awaits.Awaits.TheVariants as awaits
use Rattle.cobol_lex.specs.declared.token.Token.{Token}
use Rattle.cobol_lex.specs.declared.token.TokenKind.{TokenKind}
use Rattle.cobol_lex.specs.declared.token.TokenKind.TheVariants as kind
use Rattle.cobol_print.specs.declared.spacing.TokenStart.{TokenStart}
use Rattle.cobol_print.specs.declared.units.unit.PrintUnit.{PrintUnit}
use Rattle.cobol_print.proofs.PlacedLemmas.{piece}
use Rattle.cobol_print.proofs.LineLemmas.{both_true, first_true, rest_true, start_cases, broken_room, fits_is, written_some, sized_width, HasRoom, pad, gap_placed, rest_placed, unit_placed, units_placed, begins_plain, IsFirst, unit_reads, lawful_behind, AreRead, units_read}

-- a text has these tokens, since they lie in it
record IsText (awaits : Awaits) (before : ℕ) (text : List Placed) (tokens : List Token) : Type 0 where
  laid : List Laid
  end : List Placed
  is : text ≡ laid_text laid end
  are : AreLaid awaits before laid end
  tokens_are : map (λ (one : Laid). one.token) laid ≡ tokens

text_end : (awaits : Awaits) (before : ℕ) (end : List Placed) → list_all is_separator (bytes_of end) ≡ true → IsText awaits before end []
text_end awaits before end apart = record { laid = []; end = end; is = refl; are = apart; tokens_are = refl }

text_one : (awaits : Awaits) (before : ℕ) (one : Laid) (rest : List Placed) (tokens : List Token) → IsLaid awaits before one rest →
    IsText (awaits_behind awaits one.token.kind) (last_byte (last_byte before one.gap) one.piece) rest tokens → IsText awaits before (one.gap ++ (one.piece ++ rest)) (one.token ∷ tokens)
text_one awaits before one rest tokens is more = record {
  laid = one ∷ more.laid;
  end = more.end;
  is = ap (λ t. one.gap ++ (one.piece ++ t)) more.is;
  are = (subst (IsLaid awaits before one) more.is is, more.are);
  tokens_are = ap (λ t. one.token ∷ t) more.tokens_are;
}

-- gaps hold separators alone
separate-spaces : (line n : ℕ) → list_all is_separator (bytes_of (placed line (replicate n 32))) ≡ true
separate-spaces line zero = refl
separate-spaces line (suc n) = separate-spaces line n

separate-append : (front rest : List Placed) → list_all is_separator (bytes_of front) ≡ true → list_all is_separator (bytes_of rest) ≡ true → list_all is_separator (bytes_of (front ++ rest)) ≡ true
separate-append [] rest h g = g
separate-append (p ∷ front) rest h g =
    both_true (is_separator p.byte) (list_all is_separator (bytes_of (front ++ rest))) (first_true (is_separator p.byte) (list_all is_separator (bytes_of front)) h)
    (separate-append front rest (rest_true (is_separator p.byte) (list_all is_separator (bytes_of front)) h) g)

separate-break : (line n k : ℕ) → list_all is_separator (bytes_of (placed line (replicate n 32) ++ (placed line (10 ∷ []) ++ placed (line + 1) (replicate k 32)))) ≡ true
separate-break line n k =
    separate-append (placed line (replicate n 32)) (placed line (10 ∷ []) ++ placed (line + 1) (replicate k 32)) (separate-spaces line n)
    (separate-append (placed line (10 ∷ [])) (placed (line + 1) (replicate k 32)) refl (separate-spaces (line + 1) k))

separate-gap : (line column : ℕ) (start : TokenStart) → list_all is_separator (bytes_of (gap_placed line column start)) ≡ true
separate-gap line column start =
    elim start.breaks as (λ t. list_all is_separator (bytes_of (cond t (pad line column ++ (placed line (10 ∷ []) ++ placed (line + 1) (replicate (start.column - 8) 32))) (placed line (replicate (start.column - column) 32)))) ≡ true)
    [ true ↦ separate-break line (73 - column) (start.column - 8) | false ↦ separate-spaces line (start.column - column) ]

-- the pieces are the tokens' bytes
piece-bytes : (line column : ℕ) (inside : Bool) (bytes : List ℕ) → bytes_of (piece line column inside bytes) ≡ bytes
piece-bytes line column inside [] = refl
piece-bytes line column inside (b ∷ bytes) = ap (λ t. b ∷ t) (piece-bytes (next_line line column) (next_column column inside) (turned inside b) bytes)

piece-begins : (line column : ℕ) (bytes : List ℕ) → column < 73 → 0 < length bytes → map (λ p. p.line) (take 1 (piece line column false bytes)) ≡ line ∷ []
piece-begins line column [] room some = absurd (omega (arith, some))
piece-begins line column (b ∷ bytes) room some =
    let other : (column == 73) ≡ false = grind (arith, nat_tests, room) in
    let same : next_line line column ≡ line = rw other refl in
    ap (λ l. l ∷ []) same

-- a space or a line's end ends every token
byte_is : (b c : ℕ) → (b == c) ≡ true → b ≡ c
byte_is b c e = grind (arith, nat_tests, e)

of_two : (P : ℕ → Type 0) (b c d : ℕ) → (b == c || b == d) ≡ true → P c → P d → P b
of_two P b c d h at_c at_d = decide (b == c) refl
  where
    decide : (t : Bool) → (b == c) ≡ t → P b
    decide true e = subst P (sym (byte_is b c e)) at_c
    decide false e = let other : (b == d) ≡ true = rw e at h in subst P (sym (byte_is b d other)) at_d

open_stops : (bytes : List ℕ) → is_open bytes ≡ true → runs_on bytes ≡ false
open_stops [] h = refl
open_stops (b ∷ rest) h = of_two (λ c. runs_on (c ∷ rest) ≡ false) b 32 10 h refl refl

open_ends_picture : (bytes : List ℕ) → is_open bytes ≡ true → ends_picture_run bytes ≡ true
open_ends_picture [] h = refl
open_ends_picture (b ∷ rest) h = of_two (λ c. ends_picture_run (c ∷ rest) ≡ true) b 32 10 h refl refl

open_no_digit : (bytes : List ℕ) → is_open bytes ≡ true → begins is_digit bytes ≡ false
open_no_digit [] h = refl
open_no_digit (b ∷ rest) h = of_two (λ c. is_digit c ≡ false) b 32 10 h refl refl

is_picture : TokenKind → Bool
is_picture (kind.Picture picture) = true
is_picture _ = false

ends_by : (before : TokenKind) (rest : List Placed) → runs_on (bytes_of rest) ≡ false → (is_picture before ≡ true → ends_picture_run (bytes_of rest) ≡ true) → Ends before rest
unfolding is_picture
ends_by (kind.Picture picture) rest stops ends = ends refl
ends_by (kind.Mark b) rest stops ends = inr stops
ends_by before rest stops ends = stops

ends_open : (before : TokenKind) (rest : List Placed) → is_open (bytes_of rest) ≡ true → Ends before rest
ends_open before rest h = ends_by before rest (open_stops (bytes_of rest) h) (λ _. open_ends_picture (bytes_of rest) h)

open_spaces : (line n : ℕ) (rest : List Placed) → is_open (bytes_of rest) ≡ true → is_open (bytes_of (placed line (replicate n 32) ++ rest)) ≡ true
open_spaces line zero rest h = h
open_spaces line (suc n) rest h = refl

open_break : (line n : ℕ) (more rest : List Placed) → is_open (bytes_of ((placed line (replicate n 32) ++ (placed line (10 ∷ []) ++ more)) ++ rest)) ≡ true
open_break line zero more rest = refl
open_break line (suc n) more rest = refl

open_one : (line n : ℕ) (rest : List Placed) → 1 ≡ n → is_open (bytes_of (placed line (replicate n 32) ++ rest)) ≡ true
open_one line n rest e = subst (λ m. is_open (bytes_of (placed line (replicate m 32) ++ rest)) ≡ true) e refl

-- `.`, `)` or `:` ends a token, `.` behind a picture where nothing follows it
hug_ends : (before token : TokenKind) (line column : ℕ) (rest : List Placed) → hugs token ≡ true → may_meet before token ≡ true → (token ≡ kind.Period → is_open (bytes_of rest) ≡ true) →
    Ends before (piece line column false (written token) ++ rest)
unfolding is_picture
hug_ends before kind.Period line column rest h meets period =
    let opens : is_open (bytes_of rest) ≡ true = period refl in
    ends_by before (piece line column false (46 ∷ []) ++ rest) (open_no_digit (bytes_of rest) opens) (λ _. opens)
hug_ends before (kind.Mark b) line column rest h meets period =
    ends_by before (piece line column false (b ∷ []) ++ rest)
    (of_two (λ c. runs_on (c ∷ bytes_of rest) ≡ false) b 41 58 h refl refl)
    (λ picture. absurd (never before b h meets picture))
  where
    never : (before : TokenKind) (b : ℕ) → hugs (kind.Mark b) ≡ true → may_meet before (kind.Mark b) ≡ true → is_picture before ≡ true → ⊥
    never (kind.Picture picture) b h meets p = let no : false ≡ true = rw h at meets in absurd (cc)
    never before b h meets p = absurd (cc)
hug_ends before token line column rest h meets period = absurd (cc)

clings_alone : (b : ℕ) → no_space_behind (kind.Mark b) ≡ true → stands_alone b ≡ true
clings_alone b h = of_two (λ c. stands_alone c ≡ true) b 40 58 h refl refl

clings_leads : (token : TokenKind) (before line column : ℕ) → no_space_behind token ≡ true → leads_sign (last_byte before (piece line column false (written token))) ≡ true
clings_leads (kind.Mark b) before line column h = of_two (λ c. leads_sign c ≡ true) b 40 58 h refl refl
clings_leads token before line column h = absurd (cc)

last_spaces : (line n before : ℕ) → leads_sign before ≡ true → leads_sign (last_byte before (placed line (replicate n 32))) ≡ true
last_spaces line zero before h = h
last_spaces line (suc n) before h = last_spaces line n 32 refl

last_break : (line n k before : ℕ) → leads_sign (last_byte before (placed line (replicate n 32) ++ (placed line (10 ∷ []) ++ placed (line + 1) (replicate k 32)))) ≡ true
last_break line zero k before = last_spaces (line + 1) k 10 refl
last_break line (suc n) k before = last_break line n k 32

-- the tokens follow one another as they may
Chained : List TokenKind → Type 0
Chained [] = Unit {0}
Chained (token ∷ tokens) = MayMeet token tokens

chained : (before : TokenKind) (tokens : List TokenKind) → MayMeet before tokens → Chained tokens
unfolding Chained
chained before [] meets = tt
chained before (token ∷ tokens) meets = meets.1

module _ (margin : ℕ) (low : 8 ≤ margin) (more : List TokenKind) (after : ℕ → List Placed) (later : ℕ → List Token)
    (opens : (line : ℕ) → is_open (bytes_of (after line)) ≡ true)
    (follows : (awaits : Awaits) (before line column : ℕ) → AreLawfulKinds awaits more → IsText awaits before (pad line column ++ after line) (later line)) where
  -- what stands from a start on
  from : (line column : ℕ) → TokenKind → List TokenKind → TokenStart → List Placed
  from line column token tokens start =
      gap_placed line column start ++ (piece (start_line line start) start.column false (written token)
      ++ rest_placed (line_behind (start_line line start) start.column false (written token)) margin (column_behind start.column false (written token)) (no_space_behind token) tokens after)

  rest_open : (tokens : List TokenKind) (line column : ℕ) → MayMeet kind.Period tokens → is_open (bytes_of (rest_placed line margin column false tokens after)) ≡ true
  unfolding from
  rest_open [] line column meets = open_spaces line (73 - column) (after line) (opens line)
  rest_open (token ∷ tokens) line column meets =
      let no_hug : hugs token ≡ false = not_true (hugs token) meets.0 in
      start_cases (λ start. is_open (bytes_of (from line column token tokens start)) ≡ true) margin column false token (length (written token))
      (λ _. let one : 1 ≡ column_of column false token - column = rw no_hug (omega arith) in open_one line (column_of column false token - column) _ one)
      (λ at _. open_break line (73 - column) (placed (line + 1) (replicate (at - 8) 32)) _)
    where
      not_true : (x : Bool) → not x ≡ true → x ≡ false
      not_true true h = absurd (cc)
      not_true false h = refl

  ends_apart : (before : TokenKind) (tokens : List TokenKind) (line column : ℕ) → MayMeet before tokens → Ends before (rest_placed line margin column false tokens after)
  unfolding from
  ends_apart before [] line column meets = ends_open before (pad line column ++ after line) (open_spaces line (73 - column) (after line) (opens line))
  ends_apart before (token ∷ tokens) line column meets =
      start_cases (λ start. Ends before (from line column token tokens start)) margin column false token (length (written token))
      (λ _. decide (hugs token) refl)
      (λ at _. ends_open before (from line column token tokens (record { breaks = true; column = at })) (open_break line (73 - column) (placed (line + 1) (replicate (at - 8) 32)) _))
    where
      period_open : (token : TokenKind) → MayMeet token tokens → (on at : ℕ) → token ≡ kind.Period → is_open (bytes_of (rest_placed on margin at (no_space_behind token) tokens after)) ≡ true
      period_open token meets on at e =
          subst (λ t. MayMeet t tokens → is_open (bytes_of (rest_placed on margin at (no_space_behind t) tokens after)) ≡ true) (sym e) (rest_open tokens on at) meets

      decide : (t : Bool) → hugs token ≡ t → Ends before (from line column token tokens (record { breaks = false; column = column_of column false token }))
      decide false e =
          let one : 1 ≡ column_of column false token - column = rw e (omega arith) in
          ends_open before (from line column token tokens (record { breaks = false; column = column_of column false token })) (open_one line (column_of column false token - column) _ one)
      decide true e =
          let at : ℕ = column_of column false token in
          let none : 0 ≡ at - column = rw e (omega arith) in
          subst (λ n. Ends before (placed line (replicate n 32) ++ (piece line at false (written token)
          ++ rest_placed (line_behind line at false (written token)) margin (column_behind at false (written token)) (no_space_behind token) tokens after))) none
          (hug_ends before token line at _ e meets.0 (period_open token meets.1 (line_behind line at false (written token)) (column_behind at false (written token))))

  ends_before : (before : TokenKind) (tokens : List TokenKind) (line column : ℕ) → MayMeet before tokens → Ends before (rest_placed line margin column (no_space_behind before) tokens after)
  ends_before (kind.Mark b) tokens line column meets = decide (no_space_behind (kind.Mark b)) refl
    where
      decide : (t : Bool) → no_space_behind (kind.Mark b) ≡ t → Ends (kind.Mark b) (rest_placed line margin column t tokens after)
      decide true e = inl (clings_alone b e)
      decide false e = ends_apart (kind.Mark b) tokens line column meets
  ends_before before tokens line column meets = ends_apart before tokens line column meets

  start_signed : (token : TokenKind) (line column before : ℕ) (clinging : Bool) → (clinging ≡ true → leads_sign before ≡ true) →
      SignCounts (last_byte before (gap_placed line column (start_of margin column clinging token (length (written token))))) token
  start_signed (kind.Decimal number) line column before clinging leads =
      let token : TokenKind = kind.Decimal number in
      start_cases (λ start. leads_sign (last_byte before (gap_placed line column start)) ≡ true) margin column clinging token (length (written token))
      (λ _. decide clinging leads)
      (λ at _. last_break line (73 - column) (at - 8) before)
    where
      decide : (t : Bool) → (t ≡ true → leads_sign before ≡ true) → leads_sign (last_byte before (placed line (replicate (cond (t || false) column (column + 1) - column) 32))) ≡ true
      decide true leads = last_spaces line (column - column) before (leads refl)
      decide false leads = let one : 1 ≡ column + 1 - column = omega arith in subst (λ n. leads_sign (last_byte before (placed line (replicate n 32))) ≡ true) one refl
  start_signed (kind.Picture picture) line column before clinging leads = tt
  start_signed token line column before clinging leads = tt

  start_room : (token : TokenKind) (column : ℕ) (clinging : Bool) (awaits : Awaits) → IsLawful awaits token → IsSized margin token → HasRoom token (start_of margin column clinging token (length (written token))).column
  start_room token column clinging awaits lawful sized =
      start_cases (λ start. HasRoom token start.column) margin column clinging token (length (written token))
      (λ fit.
      let width : column_of column clinging token + length (written token) ≤ 73 = fits_is (column_of column clinging token) (length (written token)) fit in
      let some : 0 < length (written token) = written_some margin awaits token lawful sized in
      record { begins = omega (arith, width, some); ends = λ _. width })
      (λ at broken. (broken_room margin awaits token at low lawful sized broken).1)

  rest_text : (tokens : List TokenKind) (line column before : ℕ) (clinging : Bool) (awaits : Awaits) → (clinging ≡ true → leads_sign before ≡ true) → Chained tokens →
      AreLawfulKinds awaits (tokens ++ more) → All (IsSized margin) tokens →
      IsText awaits before (rest_placed line margin column clinging tokens after) (rest_tokens line margin column clinging tokens ++ later (rest_line line margin column clinging tokens))
  unfolding Chained
  rest_text [] line column before clinging awaits leads meets lawful sized = follows awaits before line column lawful
  rest_text (token ∷ tokens) line column before clinging awaits leads meets lawful sized =
      let w : List ℕ = written token in
      let start : TokenStart = start_of margin column clinging token (length w) in
      let on : ℕ = start_line line start in
      let first : IsSized margin token = All-head (IsSized margin) token tokens sized in
      let has : HasRoom token start.column = start_room token column clinging awaits lawful.0 first in
      let gap : List Placed = gap_placed line column start in
      let one : Laid = record { gap = gap; piece = piece on start.column false w; token = record { kind = token; line = on } } in
      text_one awaits before one
      (rest_placed (line_behind on start.column false w) margin (column_behind start.column false w) (no_space_behind token) tokens after) _
      (record {
        apart = separate-gap line column start;
        spelled = piece-bytes on start.column false w;
        begun = piece-begins on start.column w has.begins (written_some margin awaits token lawful.0 first);
        lawful = lawful.0;
        signed = start_signed token line column before clinging leads;
        ended = ends_before token tokens (line_behind on start.column false w) (column_behind start.column false w) meets;
      })
      (rest_text tokens (line_behind on start.column false w) (column_behind start.column false w) (last_byte (last_byte before gap) (piece on start.column false w)) (no_space_behind token) (awaits_behind awaits token)
      (clings_leads token (last_byte before gap) on start.column) (chained token tokens meets) lawful.1 (All-tail (IsSized margin) token tokens sized))

  begins_signed : (before : ℕ) (token : TokenKind) (tokens : List TokenKind) → BeginsWell (token ∷ tokens) → SignCounts before token
  begins_signed before (kind.Word word) tokens begins = tt
  begins_signed before (kind.Digits digits) tokens begins = tt
  begins_signed before token tokens begins = absurd begins

  begins_meets : (token : TokenKind) (tokens : List TokenKind) → BeginsWell (token ∷ tokens) → MayMeet token tokens
  begins_meets (kind.Word word) tokens begins = begins
  begins_meets (kind.Digits digits) tokens begins = begins
  begins_meets token tokens begins = absurd begins

  unit_text : (tokens : List TokenKind) (line before : ℕ) (gap : List Placed) (awaits : Awaits) → list_all is_separator (bytes_of gap) ≡ true → BeginsWell tokens →
      AreLawfulKinds awaits (tokens ++ more) → All (IsSized margin) tokens →
      IsText awaits before (gap ++ unit_placed line margin tokens after) (unit_tokens line margin tokens ++ later (unit_line line margin tokens))
  unit_text [] line before gap awaits apart begins lawful sized = absurd begins
  unit_text (token ∷ tokens) line before gap awaits apart begins lawful sized =
      let w : List ℕ = written token in
      let first : IsSized margin token = All-head (IsSized margin) token tokens sized in
      let width = sized_width margin token first (begins_plain token tokens begins) in
      let some : 0 < length w = written_some margin awaits token lawful.0 first in
      let meets : MayMeet token tokens = begins_meets token tokens begins in
      let one : Laid = record { gap = gap; piece = piece line margin false w; token = record { kind = token; line = line } } in
      text_one awaits before one
      (rest_placed (line_behind line margin false w) margin (column_behind margin false w) (no_space_behind token) tokens after) _
      (record {
        apart = apart;
        spelled = piece-bytes line margin false w;
        begun = piece-begins line margin w (omega (arith, width)) some;
        lawful = lawful.0;
        signed = begins_signed (last_byte before gap) token tokens begins;
        ended = ends_before token tokens (line_behind line margin false w) (column_behind margin false w) meets;
      })
      (rest_text tokens (line_behind line margin false w) (column_behind margin false w) (last_byte (last_byte before gap) (piece line margin false w)) (no_space_behind token) (awaits_behind awaits token)
      (clings_leads token (last_byte before gap) line margin) (chained token tokens meets) lawful.1 (All-tail (IsSized margin) token tokens sized))

after_open : (units : List PrintUnit) (line : ℕ) → is_open (bytes_of (units_placed line units)) ≡ true
after_open [] line = refl
after_open (unit ∷ units) line = refl

-- the tokens of units below some line
units_text : (units : List PrintUnit) (awaits : Awaits) (before line column : ℕ) → All IsUnit units → AreLawfulKinds awaits (all_tokens units) →
    IsText awaits before (pad line column ++ units_placed line units) (printed_tokens line units)
units_text [] awaits before line column are lawful = text_end awaits before (pad line column ++ []) (separate-append (pad line column) [] (separate-spaces line (73 - column)) refl)
units_text (unit ∷ units) awaits before line column are lawful =
    let is : IsUnit unit = All-head IsUnit unit units are in
    let rest_are : All IsUnit units = All-tail IsUnit unit units are in
    let gap : List Placed = pad line column ++ (placed line (10 ∷ []) ++ placed (line + 1) (replicate (unit.column - 8) 32)) in
    let text : List Placed = unit_placed (line + 1) unit.column unit.tokens (λ on. units_placed on units) in
    let apart : pad line column ++ units_placed line (unit ∷ units) ≡ gap ++ text =
    ap (λ t. pad line column ++ t) (sym (append_assoc (placed line (10 ∷ [])) (placed (line + 1) (replicate (unit.column - 8) 32)) text))
    ∙ sym (append_assoc (pad line column) (placed line (10 ∷ []) ++ placed (line + 1) (replicate (unit.column - 8) 32)) text) in
    subst (λ t. IsText awaits before t (printed_tokens line (unit ∷ units))) (sym apart)
    (unit_text unit.column is.low (all_tokens units) (λ on. units_placed on units) (λ on. printed_tokens on units) (after_open units)
    (λ awaits before on at lawful. units_text units awaits before on at rest_are lawful)
    unit.tokens (line + 1) before gap awaits (separate-break line (73 - column) (unit.column - 8)) is.begins lawful is.sized)

module _ (rows_read : RowsAreRead) (laid_reads_back : LaidReadsBack) where
  reads_text : (text : List Placed) (tokens : List Token) → IsText awaits.Any 0 text tokens → tokens_of text ≡ Ok tokens
  reads_text text tokens is = ap tokens_of is.is ∙ laid_reads_back is.laid is.end is.are ∙ ap Ok is.tokens_are

  pub printed_reads_back : PrintedReadsBack
  unfolding program_text kept_lines
  printed_reads_back [] are lawful none = ([], refl, refl)
  printed_reads_back (unit ∷ units) are lawful none =
      let is : IsUnit unit = All-head IsUnit unit units are in
      let rest_are : All IsUnit units = All-tail IsUnit unit units are in
      let behind_it = lawful_behind unit.tokens (all_tokens units) awaits.Any lawful in
      let below : AreRead units = units_read units behind_it.0 rest_are behind_it.1 in
      let first : IsFirst unit.column unit.tokens (lines_of units) (λ on. units_placed on units) =
      unit_reads unit.column unit.tokens (lines_of units) (λ on. units_placed on units) awaits.Any (all_tokens units) below.ready below.reads is.low is.begins is.sized lawful in
      let whole : program_text (bytes_of_lines (lines_of (unit ∷ units))) ≡ Ok (text_of_rows first.text first.rows) =
      ap (λ rows. program_text (bytes_of_lines rows)) first.lines
      ∙ rows_read first.text first.rows (first.plain, first.are) (subst (λ rows. NoEntryRow false rows) first.lines none) in
      let gap : List Placed = placed 1 (replicate (unit.column - 8) 32) in
      let tokens : IsText awaits.Any 0 (gap ++ unit_placed 1 unit.column unit.tokens (λ on. units_placed on units)) (printed_tokens 0 (unit ∷ units)) =
      unit_text unit.column is.low (all_tokens units) (λ on. units_placed on units) (λ on. printed_tokens on units) (after_open units)
      (λ awaits before on at lawful. units_text units awaits before on at rest_are lawful)
      unit.tokens 1 0 gap awaits.Any (separate-spaces 1 (unit.column - 8)) is.begins lawful is.sized in
      let same : tokens_of (text_of_rows first.text first.rows) ≡ Ok (printed_tokens 0 (unit ∷ units)) = ap tokens_of (first.reads 1) ∙ reads_text _ _ tokens in
      (text_of_rows first.text first.rows, whole, same)
