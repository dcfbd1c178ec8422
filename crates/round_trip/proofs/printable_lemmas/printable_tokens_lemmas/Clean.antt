-- A program text has no control characters but the ends of its lines.
use Rattle.std.proofs.Common.{◌≡◌, ℕ, ◌+◌, Bool, true, false, cond, List, [], ◌∷◌, ◌++◌, drop, take, Option, Some, None, Result, Ok, refl, subst, drop-drop}
use Rattle.std.specs.Prelude.{All, IfOk, nat_le, nat_lt, ◌||◌, ◌==◌, not, if◌then◌else◌}
use Rattle.std.proofs.lemmas.Bool.{le-leb, ltb-false}
use Rattle.std.proofs.lemmas.List.{drop-take}
use Rattle.std.proofs.lemmas.List.Elements.{All-nil, All-cons, All-head, All-tail, All-append, All-drop}
use Rattle.cob_base.specs.Bytes.{space, line_feed}
use Rattle.ref_format.specs.declared.placed.Placed.{Placed}
use Rattle.ref_format.specs.declared.fault.FormatFault.{FormatFault}
use Rattle.ref_format.specs.declared.fault.FormatError.{FormatError}
use Rattle.ref_format.specs.declared.joining.Literal.{Literal}
use Rattle.ref_format.specs.declared.joining.Literal.TheVariants.{Closed, InQuotes, InApostrophes}
use Rattle.ref_format.specs.Column.{columns, unspaced, has_control, is_ordinary, is_continuation}
use Rattle.ref_format.specs.Line.{Line, kept_lines}
use Rattle.ref_format.specs.Placed.{placed}
use Rattle.ref_format.specs.Joining.{literal_at_end, trimmed, continuing, line_end, with_line, fault_of, joined, joined_or, program_text}
use Rattle.ref_format.proofs.TextStandsOnKeptLines.{trimmed_cut, front_of_all}

-- no control character, or the end of a line
abbrev pub is_clean : ℕ → Bool
is_clean byte = nat_le space byte || byte == line_feed

abbrev CleanBytes : List ℕ → Type 0
CleanBytes bytes = All (λ b. is_clean b ≡ true) bytes

abbrev pub Clean : List Placed → Type 0
Clean text = All (λ p. is_clean p.byte ≡ true) text

or-first : (x y : Bool) → x ≡ true → (x || y) ≡ true
or-first true y h = refl
or-first false y h = absurd cc

none-first : (x y : Bool) → (x || y) ≡ false → (x ≡ false) × (y ≡ false)
none-first true y h = absurd cc
none-first false y h = (refl, h)

-- ---- bytes

without-control : (bytes : List ℕ) → has_control bytes ≡ false → CleanBytes bytes
without-control [] h = All-nil (λ b. is_clean b ≡ true)
without-control (b ∷ bytes) h =
    let e = none-first (nat_lt b space) (has_control bytes) h in
    All-cons (λ b. is_clean b ≡ true) b bytes (or-first (nat_le space b) (b == line_feed) (le-leb space b (ltb-false b space e.0))) (without-control bytes e.1)

placed-clean : (number : ℕ) (bytes : List ℕ) → CleanBytes bytes → Clean (placed number bytes)
placed-clean number [] h = All-nil (λ p. is_clean p.byte ≡ true)
placed-clean number (b ∷ bytes) h =
    All-cons (λ p. is_clean p.byte ≡ true) (record { byte = b; line = number }) (placed number bytes) (All-head (λ b. is_clean b ≡ true) b bytes h)
    (placed-clean number bytes (All-tail (λ b. is_clean b ≡ true) b bytes h))

unspaced-clean : (bytes : List ℕ) → CleanBytes bytes → CleanBytes (unspaced bytes)
unspaced-clean [] h = h
unspaced-clean (b ∷ bytes) h =
    elim (b == space) as (λ t. CleanBytes (cond t (unspaced bytes) (b ∷ bytes))) [
      | true ↦ unspaced-clean bytes (All-tail (λ b. is_clean b ≡ true) b bytes h)
      | false ↦ h
    ]

-- ---- what a line adds

-- columns 12 to 72 stand within columns 8 to 72
continued-clean : (card : List ℕ) → CleanBytes (columns 8 72 card) → CleanBytes (columns 12 72 card)
continued-clean card h =
    let whole : CleanBytes (drop 4 (take (4 + 61) (drop 7 card))) = All-drop (λ b. is_clean b ≡ true) 4 (columns 8 72 card) h in
    let part : CleanBytes (take 61 (drop 4 (drop 7 card))) = subst CleanBytes (drop-take 4 61 (drop 7 card)) whole in
    subst (λ bytes. CleanBytes (take 61 bytes)) (drop-drop 4 7 card) part

continuing-clean : (literal : Literal) (card : List ℕ) → CleanBytes (columns 8 72 card) → CleanBytes (continuing literal card)
continuing-clean Closed card h = unspaced-clean (columns 12 72 card) (continued-clean card h)
continuing-clean InQuotes card h = All-drop (λ b. is_clean b ≡ true) 1 (unspaced (columns 12 72 card)) (unspaced-clean (columns 12 72 card) (continued-clean card h))
continuing-clean InApostrophes card h = All-drop (λ b. is_clean b ≡ true) 1 (unspaced (columns 12 72 card)) (unspaced-clean (columns 12 72 card) (continued-clean card h))

line_end-clean : (last : Option ℕ) → Clean (line_end last)
line_end-clean None = All-nil (λ p. is_clean p.byte ≡ true)
line_end-clean (Some number) = placed-clean number (line_feed ∷ []) (All-cons (λ b. is_clean b ≡ true) line_feed [] refl (All-nil (λ b. is_clean b ≡ true)))

with_line-clean : (last : Option ℕ) (text : List Placed) (line : Line) → Clean text → CleanBytes (columns 8 72 line.card) → Clean (with_line last text line)
with_line-clean last text line all here =
    let literal = literal_at_end text in
    let cut = trimmed_cut literal text in
    let Fine : Placed → Type 0 = λ p. is_clean p.byte ≡ true in
    elim (is_continuation line.card) as (λ t. Clean (cond t (trimmed literal text ++ placed line.number (continuing literal line.card)) (text ++ line_end last ++ placed line.number (columns 8 72 line.card)))) [
      | true ↦ All-append Fine (trimmed literal text) (placed line.number (continuing literal line.card)) (front_of_all Fine (trimmed literal text) cut.0 text cut.1 all) (placed-clean line.number (continuing literal line.card) (continuing-clean literal line.card here))
      | false ↦ All-append Fine (text ++ line_end last) (placed line.number (columns 8 72 line.card)) (All-append Fine text (line_end last) all (line_end-clean last)) (placed-clean line.number (columns 8 72 line.card) here)
    ]

-- ---- whole texts

-- a line without a fault has no control characters
faultless : (ordinary control bad : Bool) (one two three : FormatFault) →
    (if ordinary then Some one else if control then Some two else if bad then Some three else None) ≡ None → control ≡ false
faultless true control bad one two three h = absurd cc
faultless false true bad one two three h = absurd cc
faultless false false bad one two three h = refl

joined-clean : (last : Option ℕ) (text : List Placed) (lines : List Line) → Clean text → IfOk (joined last text lines) Clean
joined-clean last text [] all = all
joined-clean last text (line ∷ lines) all =
    go (λ next. joined-clean (Some line.number) (with_line last text line) lines next) (fault_of last (literal_at_end text) line) refl
  where
    go : (Clean (with_line last text line) → IfOk (joined (Some line.number) (with_line last text line) lines) Clean) → (o : Option FormatFault) →
        fault_of last (literal_at_end text) line ≡ o → IfOk (joined_or o (joined (Some line.number) (with_line last text line) lines)) Clean
    go more (Some fault) is = tt
    go more None is =
        more (with_line-clean last text line all (without-control (columns 8 72 line.card)
        (faultless (not (is_ordinary line.card || is_continuation line.card)) (has_control (columns 8 72 line.card)) _ _ _ _ is)))

clean_ok : (text : List Placed) (answer : Result (List Placed) FormatError) → answer ≡ Ok text → IfOk answer Clean → Clean text
clean_ok text answer is h = subst (λ r. IfOk r Clean) is h

pub text-clean : (bytes : List ℕ) (text : List Placed) → program_text bytes ≡ Ok text → Clean text
unfolding program_text
text-clean bytes text is = clean_ok text (program_text bytes) is (joined-clean None [] (kept_lines bytes) (All-nil (λ p. is_clean p.byte ≡ true)))
