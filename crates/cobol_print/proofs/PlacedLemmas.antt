-- What stands on the lines from some column on, and the text that it is.
use Rattle.std.proofs.Common.{inl, inr, ◌≡◌, ◌⊎◌, ℕ, zero, suc, ◌+◌, ◌-◌, ◌≤◌, ◌<◌, ◌==◌, ◌&&◌, not, nat_le, Bool, true, false, cond, List, [], ◌∷◌, ◌++◌, length, replicate, sym, ap, subst, refl, ◌∙◌, arith, append_assoc}
use Rattle.std.specs.List.{list_all}
use Rattle.std.proofs.lemmas.Bool.Decides.{nat_tests}
use Rattle.std.proofs.lemmas.List.{length-append, length-replicate}
use Rattle.std.proofs.lemmas.List.Folds.{list_all-append}
use Rattle.ref_format.specs.declared.placed.Placed.{Placed}
use Rattle.ref_format.specs.declared.joining.Literal.{Literal}
use Rattle.ref_format.specs.declared.joining.Literal.TheVariants.{Closed, InQuotes}
use Rattle.ref_format.specs.Column.{is_blank, filled}
use Rattle.ref_format.specs.Placed.{placed}
use Rattle.ref_format.specs.Joining.{behind, behind_byte}
use Rattle.ref_format.specs.Plain.{IsPlainLine}
use Rattle.ref_format.specs.Row.{less_mark, rows_text, last_of, AreRows}
use Rattle.cobol_lex.specs.Byte.{is_quote}
use Rattle.cobol_lex.specs.Written.{doubled}
use Rattle.cobol_print.specs.Line.{Rest, in_front, on_new_line, continued, turned, byte_onto, next_column, onto, column_behind}
use Rattle.cobol_print.specs.Printed.{next_line, line_behind}
use Rattle.cobol_print.specs.Unit.{is_ink}

-- with spaces to column 72
abbrev pub tail_of : (column : ℕ) → List ℕ → List ℕ
tail_of column here = here ++ replicate (73 - column - length here) 32

-- from this column of this line on, behind this last byte and within this literal, stands this text
pub record Reads (line column : ℕ) (literal : Literal) (last : ℕ) (rest : Rest) (text : List Placed) : Type 0 where
  pub short : column + length rest.here ≤ 73
  pub printable : list_all (nat_le 32) rest.here ≡ true
  pub below : AreRows (behind literal (tail_of column rest.here)) (last_of last (tail_of column rest.here)) rest.below
  pub reads : placed line (tail_of column rest.here) ++ rows_text line (behind literal (tail_of column rest.here)) rest.below ≡ text

byte_on : ℕ → ℕ → Placed
byte_on line b = record { byte = b; line = line }

high : (b : ℕ) → 32 ≤ b → nat_le 32 b ≡ true
high b h = grind (arith, nat_tests, h)

and_both : (x y : Bool) → x ≡ true → y ≡ true → (x && y) ≡ true
and_both true y h g = g
and_both false y h g = h

-- a byte on this line
pub within : (line column b : ℕ) (literal : Literal) (last : ℕ) (rest : Rest) (text : List Placed) → column < 73 → 32 ≤ b →
    Reads line (column + 1) (behind_byte literal b) b rest text → Reads line column literal last (in_front (b ∷ []) rest) (record { byte = b; line = line } ∷ text)
within line column b literal last rest text room printable more =
    let same : tail_of column (b ∷ rest.here) ≡ b ∷ tail_of (column + 1) rest.here = ap (λ n. b ∷ (rest.here ++ replicate n 32)) (omega arith) in
    record {
      short = omega (arith, more.short);
      printable = and_both (nat_le 32 b) (list_all (nat_le 32) rest.here) (high b printable) more.printable;
      below = subst (λ t. AreRows (behind literal t) (last_of last t) rest.below) (sym same) more.below;
      reads = subst (λ t. placed line t ++ rows_text line (behind literal t) rest.below ≡ record { byte = b; line = line } ∷ text) (sym same) (ap (λ t. record { byte = b; line = line } ∷ t) more.reads);
    }

-- a byte behind column 72, within a literal: a mark stands before it
cut_inside : (line b last : ℕ) (rest : Rest) (text : List Placed) → 32 ≤ b →
    Reads (line + 1) 14 (behind_byte InQuotes b) b rest text → Reads line 73 InQuotes last (continued (34 ∷ b ∷ []) rest) (record { byte = b; line = line + 1 } ∷ text)
cut_inside line b last rest text printable more =
    let same : less_mark InQuotes (filled 61 (34 ∷ b ∷ rest.here)) ≡ b ∷ tail_of 14 rest.here = ap (λ n. b ∷ (rest.here ++ replicate n 32)) (omega arith) in
    record {
      short = omega arith;
      printable = refl;
      below = (
        record {
          short = omega (arith, more.short);
          printable = and_both (nat_le 32 b) (list_all (nat_le 32) rest.here) (high b printable) more.printable;
          takes_up = refl;
        },
        subst (λ t. AreRows (behind InQuotes t) (last_of 32 t) rest.below) (sym same) more.below,
      );
      reads = subst (λ t. placed (line + 1) t ++ rows_text (line + 1) (behind InQuotes t) rest.below ≡ record { byte = b; line = line + 1 } ∷ text) (sym same) (ap (λ t. record { byte = b; line = line + 1 } ∷ t) more.reads);
    }

-- the second mark of a doubled one behind column 72: it stands for the mark
cut_parted : (line : ℕ) (rest : Rest) (text : List Placed) →
    Reads (line + 1) 13 InQuotes 34 rest text → Reads line 73 Closed 34 (continued (34 ∷ []) rest) (record { byte = 34; line = line + 1 } ∷ text)
cut_parted line rest text more =
    let same : filled 61 (34 ∷ rest.here) ≡ 34 ∷ tail_of 13 rest.here = ap (λ n. 34 ∷ (rest.here ++ replicate n 32)) (omega arith) in
    record {
      short = omega arith;
      printable = refl;
      below = (
        record {
          short = omega (arith, more.short);
          printable = more.printable;
          takes_up = (λ h. absurd (cc), λ h. absurd (cc));
        },
        subst (λ t. AreRows (behind Closed t) (last_of 32 t) rest.below) (sym same) more.below,
      );
      reads = subst (λ t. placed (line + 1) t ++ rows_text (line + 1) (behind Closed t) rest.below ≡ record { byte = 34; line = line + 1 } ∷ text) (sym same) (ap (λ t. record { byte = 34; line = line + 1 } ∷ t) more.reads);
    }

-- full, or not
at_end : (column : ℕ) → column ≤ 73 → (column ≡ 73) ⊎ (((column == 73) ≡ false) × (column < 73))
at_end column h = decide (column == 73) refl
  where
    decide : (t : Bool) → (column == 73) ≡ t → (column ≡ 73) ⊎ (((column == 73) ≡ false) × (column < 73))
    decide true e = inl (grind (arith, nat_tests, e))
    decide false e = inr (e, grind (arith, nat_tests, e))

pub next_within : (column : ℕ) (inside : Bool) → column ≤ 73 → next_column column inside ≤ 73
next_within column inside h = by (at_end column h)
  where
    by : (column ≡ 73) ⊎ (((column == 73) ≡ false) × (column < 73)) → next_column column inside ≤ 73
    by (inl e) = subst (λ c. next_column c inside ≤ 73) (sym e) (small inside)
      where
        small : (inside : Bool) → next_column 73 inside ≤ 73
        small true = omega arith
        small false = omega arith
    by (inr e) = let other : (column == 73) ≡ false = e.0 in rw other (omega (arith, e.1))

-- a byte within a literal
byte_inside : (line column b last : ℕ) (rest : Rest) (text : List Placed) → column ≤ 73 → 32 ≤ b →
    Reads (next_line line column) (next_column column true) (behind_byte InQuotes b) b rest text →
    Reads line column InQuotes last (byte_onto column true b rest) (record { byte = b; line = next_line line column } ∷ text)
byte_inside line column b last rest text h printable more = by (at_end column h) more
  where
    by : (column ≡ 73) ⊎ (((column == 73) ≡ false) × (column < 73)) → Reads (next_line line column) (next_column column true) (behind_byte InQuotes b) b rest text →
        Reads line column InQuotes last (byte_onto column true b rest) (record { byte = b; line = next_line line column } ∷ text)
    by (inl e) =
        subst (λ c. Reads (next_line line c) (next_column c true) (behind_byte InQuotes b) b rest text → Reads line c InQuotes last (byte_onto c true b rest) (record { byte = b; line = next_line line c } ∷ text))
        (sym e) (cut_inside line b last rest text printable)
    by (inr e) = let other : (column == 73) ≡ false = e.0 in rw other (within line column b InQuotes last rest text e.1 printable)

-- the second mark of a doubled one
byte_parted : (line column : ℕ) (rest : Rest) (text : List Placed) → column ≤ 73 →
    Reads (next_line line column) (next_column column false) InQuotes 34 rest text →
    Reads line column Closed 34 (byte_onto column false 34 rest) (record { byte = 34; line = next_line line column } ∷ text)
byte_parted line column rest text h = by (at_end column h)
  where
    by : (column ≡ 73) ⊎ (((column == 73) ≡ false) × (column < 73)) → Reads (next_line line column) (next_column column false) InQuotes 34 rest text →
        Reads line column Closed 34 (byte_onto column false 34 rest) (record { byte = 34; line = next_line line column } ∷ text)
    by (inl e) =
        subst (λ c. Reads (next_line line c) (next_column c false) InQuotes 34 rest text → Reads line c Closed 34 (byte_onto c false 34 rest) (record { byte = 34; line = next_line line c } ∷ text))
        (sym e) (cut_parted line rest text)
    by (inr e) = let other : (column == 73) ≡ false = e.0 in rw other (within line column 34 Closed 34 rest text e.1 (omega arith))

-- the bytes of a token, each on its line
abbrev pub piece : (line column : ℕ) (inside : Bool) → List ℕ → List Placed
piece line column inside [] = []
piece line column inside (b ∷ bytes) =
    record { byte = b; line = next_line line column } ∷ piece (next_line line column) (next_column column inside) (turned inside b) bytes

first_true : (x y : Bool) → (x && y) ≡ true → x ≡ true
first_true true y h = refl
first_true false y h = h

rest_true : (x y : Bool) → (x && y) ≡ true → y ≡ true
rest_true true y h = h
rest_true false y h = absurd (cc)

low : (b : ℕ) → nat_le 32 b ≡ true → 32 ≤ b
low b h = grind (arith, nat_tests, h)

-- these bytes of a literal and its last mark, however they are cut
Quoted : List ℕ → Type 0
Quoted bytes =
    (line column last : ℕ) (rest : Rest) (text : List Placed) → column ≤ 73 →
    Reads (line_behind line column true (bytes ++ 34 ∷ [])) (column_behind column true (bytes ++ 34 ∷ [])) Closed 34 rest text →
    Reads line column InQuotes last (onto column true (bytes ++ 34 ∷ []) rest) (piece line column true (bytes ++ 34 ∷ []) ++ text)

quoted_other : (b : ℕ) (bytes : List ℕ) → (b == 34) ≡ false → 32 ≤ b → Quoted bytes → Quoted (b ∷ bytes)
unfolding Quoted
quoted_other b bytes other printable go line column last rest text h more =
    let ten : (b == 10) ≡ false = grind (arith, nat_tests, printable) in
    let stays : behind_byte InQuotes b ≡ InQuotes = rw (other, ten) refl in
    let still : turned true b ≡ true = rw other refl in
    let on : ℕ = next_line line column in
    let at : ℕ = next_column column true in
    let left : List ℕ = bytes ++ 34 ∷ [] in
    let later : Reads (line_behind on at true left) (column_behind at true left) Closed 34 rest text =
    subst (λ t. Reads (line_behind on at t left) (column_behind at t left) Closed 34 rest text) still more in
    let inner : Reads on at InQuotes b (onto at true left rest) (piece on at true left ++ text) = go on at b rest text (next_within column true h) later in
    subst (λ t. Reads line column InQuotes last (byte_onto column true b (onto at t left rest)) (record { byte = b; line = on } ∷ (piece on at t left ++ text))) (sym still)
    (byte_inside line column b last (onto at true left rest) (piece on at true left ++ text) h printable
    (subst (λ l. Reads on at l b (onto at true left rest) (piece on at true left ++ text)) (sym stays) inner))

quoted_mark : (bytes : List ℕ) → Quoted bytes → Quoted (34 ∷ 34 ∷ bytes)
unfolding Quoted
quoted_mark bytes go line column last rest text h more =
    let on : ℕ = next_line line column in
    let at : ℕ = next_column column true in
    let on' : ℕ = next_line on at in
    let at' : ℕ = next_column at false in
    let within_at : at ≤ 73 = next_within column true h in
    byte_inside line column 34 last _ _ h (omega arith)
    (byte_parted on at _ _ within_at (go on' at' 34 rest text (next_within at false within_at) more))

quoted : (value : List ℕ) → list_all (nat_le 32) value ≡ true → Quoted (doubled value)
unfolding Quoted
quoted [] printable = λ line column last rest text h more. byte_inside line column 34 last rest text h (omega arith) more
quoted (b ∷ value) printable =
    let first : 32 ≤ b = low b (first_true (nat_le 32 b) (list_all (nat_le 32) value) printable) in
    let more : Quoted (doubled value) = quoted value (rest_true (nat_le 32 b) (list_all (nat_le 32) value) printable) in
    elim (b == 34) as (λ t. (b == 34) ≡ t → Quoted (cond t (34 ∷ 34 ∷ doubled value) (b ∷ doubled value)))
    [ true ↦ λ e. quoted_mark (doubled value) more | false ↦ λ e. quoted_other b (doubled value) e first more ] refl

-- a byte that stands before column 73
module _ (line column b : ℕ) (inside : Bool) (bytes : List ℕ) (room : column < 73) where
  not_full : (column == 73) ≡ false
  not_full = grind (arith, nat_tests, room)

  same_line : next_line line column ≡ line
  same_line = rw not_full refl

  pub next_is : next_column column inside ≡ column + 1
  next_is = rw not_full refl

  pub in_line : (rest : Rest) → byte_onto column inside b rest ≡ in_front (b ∷ []) rest
  in_line rest = rw not_full refl

  step_reads : (literal : Literal) (last : ℕ) (rest : Rest) (text : List Placed) → 32 ≤ b →
      Reads line (column + 1) (behind_byte literal b) b (onto (column + 1) (turned inside b) bytes rest) (piece line (column + 1) (turned inside b) bytes ++ text) →
      Reads line column literal last (onto column inside (b ∷ bytes) rest) (piece line column inside (b ∷ bytes) ++ text)
  step_reads literal last rest text printable more =
      let P : ℕ → ℕ → Type 0 = λ on at. Reads line column literal last (byte_onto column inside b (onto at (turned inside b) bytes rest)) (record { byte = b; line = on } ∷ (piece on at (turned inside b) bytes ++ text)) in
      let there : Rest = onto (column + 1) (turned inside b) bytes rest in
      subst (λ on. P on (next_column column inside)) (sym same_line)
      (subst (λ at. P line at) (sym next_is)
      (subst (λ r. Reads line column literal last r (record { byte = b; line = line } ∷ (piece line (column + 1) (turned inside b) bytes ++ text))) (sym (in_line there))
      (within line column b literal last there (piece line (column + 1) (turned inside b) bytes ++ text) room printable more)))

  step_behind : (P : ℕ → ℕ → Type 0) → P (line_behind line column inside (b ∷ bytes)) (column_behind column inside (b ∷ bytes)) →
      P (line_behind line (column + 1) (turned inside b) bytes) (column_behind (column + 1) (turned inside b) bytes)
  step_behind P more =
      subst (λ on. P (line_behind on (column + 1) (turned inside b) bytes) (column_behind (column + 1) (turned inside b) bytes)) same_line
      (subst (λ at. P (line_behind (next_line line column) at (turned inside b) bytes) (column_behind at (turned inside b) bytes)) next_is more)

-- a whole literal that begins on this line
pub literal_reads : (value : List ℕ) (line column last : ℕ) (rest : Rest) (text : List Placed) → column < 73 → list_all (nat_le 32) value ≡ true →
    Reads (line_behind line column false (34 ∷ doubled value ++ 34 ∷ [])) (column_behind column false (34 ∷ doubled value ++ 34 ∷ [])) Closed 34 rest text →
    Reads line column Closed last (onto column false (34 ∷ doubled value ++ 34 ∷ []) rest) (piece line column false (34 ∷ doubled value ++ 34 ∷ []) ++ text)
unfolding Quoted
literal_reads value line column last rest text room printable more =
    let left : List ℕ = doubled value ++ 34 ∷ [] in
    step_reads line column 34 false left room Closed last rest text (omega arith)
    (quoted value printable line (column + 1) 34 rest text (omega (arith, room))
    (step_behind line column 34 false left room (λ on at. Reads on at Closed 34 rest text) more))

lower : (b : ℕ) → nat_le 33 b ≡ true → 32 ≤ b
lower b h = grind (arith, nat_tests, h)

no_mark : (b : ℕ) → not (is_quote b) ≡ true → (b == 34) ≡ false
no_mark b h = grind (arith, nat_tests, h)

no_apostrophe : (b : ℕ) → not (is_quote b) ≡ true → (b == 39) ≡ false
no_apostrophe b h = grind (arith, nat_tests, h)

-- a token without marks that fits on this line
pub word_reads : (bytes : List ℕ) (line column last : ℕ) (rest : Rest) (text : List Placed) → column + length bytes ≤ 73 → list_all is_ink bytes ≡ true →
    ((last : ℕ) → Reads (line_behind line column false bytes) (column_behind column false bytes) Closed last rest text) →
    Reads line column Closed last (onto column false bytes rest) (piece line column false bytes ++ text)
word_reads [] line column last rest text room ink more = more last
word_reads (b ∷ bytes) line column last rest text room ink more =
    let first : is_ink b ≡ true = first_true (is_ink b) (list_all is_ink bytes) ink in
    let later : list_all is_ink bytes ≡ true = rest_true (is_ink b) (list_all is_ink bytes) ink in
    let printable : 32 ≤ b = lower b (first_true (nat_le 33 b) (not (is_quote b)) first) in
    let no_quote : not (is_quote b) ≡ true = rest_true (nat_le 33 b) (not (is_quote b)) first in
    let mark : (b == 34) ≡ false = no_mark b no_quote in
    let apostrophe : (b == 39) ≡ false = no_apostrophe b no_quote in
    let stays : behind_byte Closed b ≡ Closed = rw (mark, apostrophe) refl in
    let still : turned false b ≡ false = rw mark refl in
    let before : column < 73 = omega (arith, room) in
    let inner : Reads line (column + 1) Closed b (onto (column + 1) false bytes rest) (piece line (column + 1) false bytes ++ text) =
    word_reads bytes line (column + 1) b rest text (omega (arith, room)) later
    (λ l. subst (λ t. Reads (line_behind line (column + 1) t bytes) (column_behind (column + 1) t bytes) Closed l rest text) still
    (step_behind line column b false bytes before (λ on at. Reads on at Closed l rest text) (more l))) in
    step_reads line column b false bytes before Closed last rest text printable
    (subst (λ l. Reads line (column + 1) l b (onto (column + 1) (turned false b) bytes rest) (piece line (column + 1) (turned false b) bytes ++ text)) (sym stays)
    (subst (λ t. Reads line (column + 1) Closed b (onto (column + 1) t bytes rest) (piece line (column + 1) t bytes ++ text)) (sym still) inner))

-- a space on this line
space_reads : (line column last : ℕ) (rest : Rest) (text : List Placed) → column < 73 → Reads line (column + 1) Closed 32 rest text →
    Reads line column Closed last (in_front (32 ∷ []) rest) (placed line (32 ∷ []) ++ text)
space_reads line column last rest text room more = within line column 32 Closed last rest text room (omega arith) more

behind-spaces : (n : ℕ) (bytes : List ℕ) → behind Closed (replicate n 32 ++ bytes) ≡ behind Closed bytes
behind-spaces zero bytes = refl
behind-spaces (suc n) bytes = behind-spaces n bytes

last-spaces : (n : ℕ) (bytes : List ℕ) → last_of 32 (replicate n 32 ++ bytes) ≡ last_of 32 bytes
last-spaces zero bytes = refl
last-spaces (suc n) bytes = last-spaces n bytes

spaces_printable : (n : ℕ) → list_all (nat_le 32) (replicate n 32) ≡ true
spaces_printable zero = refl
spaces_printable (suc n) = spaces_printable n

placed-append : (line : ℕ) (front rest : List ℕ) → placed line (front ++ rest) ≡ placed line front ++ placed line rest
placed-append line [] rest = refl
placed-append line (b ∷ front) rest = ap (λ t. record { byte = b; line = line } ∷ t) (placed-append line front rest)

and-false : (x : Bool) → (x && false) ≡ false
and-false true = refl
and-false false = refl

-- a line that begins with spaces up to this column
module _ (line column : ℕ) (rest : Rest) (text : List Placed) (low_column : 8 ≤ column) (some : is_blank rest.here ≡ false) (more : Reads line column Closed 32 rest text) where
  line-filled : filled 65 (replicate (column - 8) 32 ++ rest.here) ≡ replicate (column - 8) 32 ++ tail_of column rest.here
  line-filled =
      let whole : length (replicate (column - 8) 32 ++ rest.here) ≡ column - 8 + length rest.here = length-append (replicate (column - 8) 32) rest.here ∙ ap (λ n. n + length rest.here) (length-replicate (column - 8) 32) in
      let left : 65 - length (replicate (column - 8) 32 ++ rest.here) ≡ 73 - column - length rest.here = omega (arith, whole, low_column, more.short) in
      ap (λ n. (replicate (column - 8) 32 ++ rest.here) ++ replicate n 32) left ∙ append_assoc (replicate (column - 8) 32) rest.here (replicate (73 - column - length rest.here) 32)

  pub line_plain : IsPlainLine (replicate (column - 8) 32 ++ rest.here)
  line_plain = record {
    short = omega (arith, length-append (replicate (column - 8) 32) rest.here, length-replicate {A = ℕ} (column - 8) 32, low_column, more.short);
    printable = list_all-append (nat_le 32) (replicate (column - 8) 32) rest.here ∙ and_both _ _ (spaces_printable (column - 8)) more.printable;
    some = list_all-append (λ b. b == 32) (replicate (column - 8) 32) rest.here ∙ ap (λ t. is_blank (replicate (column - 8) 32) && t) some ∙ and-false _;
  }

  pub line_below : AreRows (behind Closed (filled 65 (replicate (column - 8) 32 ++ rest.here))) (last_of 32 (filled 65 (replicate (column - 8) 32 ++ rest.here))) rest.below
  line_below =
      let P : List ℕ → Type 0 = λ t. AreRows (behind Closed t) (last_of 32 t) rest.below in
      subst P (sym line-filled)
      (subst (λ l. AreRows l (last_of 32 (replicate (column - 8) 32 ++ tail_of column rest.here)) rest.below) (sym (behind-spaces (column - 8) (tail_of column rest.here)))
      (subst (λ l. AreRows (behind Closed (tail_of column rest.here)) l rest.below) (sym (last-spaces (column - 8) (tail_of column rest.here))) more.below))

  pub line_reads : placed line (filled 65 (replicate (column - 8) 32 ++ rest.here)) ++ rows_text line (behind Closed (filled 65 (replicate (column - 8) 32 ++ rest.here))) rest.below ≡ placed line (replicate (column - 8) 32) ++ text
  line_reads =
      ap (λ t. placed line t ++ rows_text line (behind Closed t) rest.below) line-filled
      ∙ ap (λ l. placed line (replicate (column - 8) 32 ++ tail_of column rest.here) ++ rows_text line l rest.below) (behind-spaces (column - 8) (tail_of column rest.here))
      ∙ ap (λ t. t ++ rows_text line (behind Closed (tail_of column rest.here)) rest.below) (placed-append line (replicate (column - 8) 32) (tail_of column rest.here))
      ∙ append_assoc (placed line (replicate (column - 8) 32)) (placed line (tail_of column rest.here)) (rows_text line (behind Closed (tail_of column rest.here)) rest.below)
      ∙ ap (λ t. placed line (replicate (column - 8) 32) ++ t) more.reads

-- a new line below this one
pub new_line_reads : (line before last column : ℕ) (rest : Rest) (text : List Placed) → before ≤ 73 → 8 ≤ column → is_blank rest.here ≡ false →
    Reads (line + 1) column Closed 32 rest text →
    Reads line before Closed last (on_new_line (replicate (column - 8) 32) rest)
    (placed line (replicate (73 - before) 32) ++ (placed line (10 ∷ []) ++ (placed (line + 1) (replicate (column - 8) 32) ++ text)))
new_line_reads line before last column rest text room low_column some more = record {
  short = omega (arith, room);
  printable = refl;
  below = (line_plain (line + 1) column rest text low_column some more, line_below (line + 1) column rest text low_column some more);
  reads = ap (λ t. placed line (replicate (73 - before - 0) 32) ++ t)
      (append_assoc (placed line (10 ∷ [])) (placed (line + 1) (filled 65 (replicate (column - 8) 32 ++ rest.here))) (rows_text (line + 1) (behind Closed (filled 65 (replicate (column - 8) 32 ++ rest.here))) rest.below)
      ∙ ap (λ t. placed line (10 ∷ []) ++ t) (line_reads (line + 1) column rest text low_column some more))
      ∙ ap (λ n. placed line (replicate n 32) ++ (placed line (10 ∷ []) ++ (placed (line + 1) (replicate (column - 8) 32) ++ text))) (omega arith);
}
