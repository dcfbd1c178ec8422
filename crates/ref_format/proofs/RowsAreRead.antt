-- Lines that are written are read, continued ones too.
use Rattle.std.proofs.Common.{◌≡◌, ◌≢◌, ℕ, ◌+◌, ◌-◌, ◌≤◌, ◌<◌, ◌==◌, ◌&&◌, nat_le, true, false, List, [], ◌∷◌, ◌++◌, length, map, take, drop, replicate, reverse, get_or, Some, None, Ok, sym, ap, subst, refl, ◌∙◌, arith, append_assoc, append-nil}
use Rattle.std.specs.Prelude.{All}
use Rattle.std.specs.List.{list_all, list_any}
use Rattle.std.specs.Str.Lines.{lines, strip_carriage_return}
use Rattle.std.proofs.Math.Seq.{take-append-add}
use Rattle.std.proofs.lemmas.Bool.Decides.{nat_tests}
use Rattle.std.proofs.lemmas.List.{length-append, length-replicate, take-replicate, take_all, reverse-reverse}
use Rattle.std.proofs.lemmas.List.Elements.{All-weaker}
use Rattle.std.proofs.lemmas.List.Folds.{list_all-append}
use Rattle.std.proofs.lemmas.List.Splits.{slice_split_at}
use Rattle.std.proofs.lemmas.List.Sums.{AllPass-from_list_all}
use Rattle.ref_format.specs.declared.placed.Placed.{Placed}
use Rattle.ref_format.specs.declared.joining.Literal.{Literal}
use Rattle.ref_format.specs.declared.joining.Literal.TheVariants.{Closed, InQuotes, InApostrophes}
use Rattle.ref_format.specs.Column.{card_of, columns, indicator, is_blank, has_control, filled}
use Rattle.ref_format.specs.Entry.{is_division, entry_goes_on, in_entry, is_without_text, is_dropped, NoEntry}
use Rattle.ref_format.specs.Line.{Line, kept_behind, kept_lines, line_of, source_of}
use Rattle.ref_format.specs.Placed.{placed}
use Rattle.ref_format.specs.Joining.{behind, behind_byte, literal_at_end, unspaced_end, unspaced_front, with_line, fault_of, joined, program_text}
use Rattle.ref_format.specs.Row.{Begins, GoesOn, Row, row_line, less_mark, row_text, literal_behind, rows_text, last_of, TakesUp, IsContinuation, IsRow, AreRows}
use Rattle.ref_format.specs.Laws.{RowsAreRead}
use Rattle.ref_format.proofs.LineLemmas.{ends, lines_split}
use Rattle.ref_format.proofs.JoiningLemmas.{literal_at_end-placed, reverse-push}
use Rattle.ref_format.proofs.PlainLinesAreRead.{untabbed-printable, no_control, spaces_printable, and-false, some-text, no_fault, with_line-plain}

-- the first of some lines
first_line : (line rest : List ℕ) → list_all (nat_le 32) line ≡ true → 0 < length line → lines (line ++ 10 ∷ rest) ≡ line ∷ lines rest
first_line line rest printable some =
    let high : All (λ b. nat_le 32 b ≡ true) line = AllPass-from_list_all (nat_le 32) line printable in
    let inner : All (λ b. ends b ≡ false) line = All-weaker (λ b. nat_le 32 b ≡ true) (λ b. ends b ≡ false) (λ b h. grind (arith, nat_tests, h)) line high in
    let last : nat_le 32 (get_or line (length line - 1) 0) ≡ true = high (length line - 1) 0 (omega arith) in
    let no_return : (get_or line (length line - 1) 0 == 13) ≡ false = grind (arith, nat_tests, last) in
    let stays : strip_carriage_return line ≡ line = rw no_return refl in
    lines_split (line ++ 10 ∷ rest) line rest (slice_split_at ends line 10 rest inner refl) ∙ ap (λ l. l ∷ lines rest) stays

row_printable : (literal : Literal) (last : ℕ) (row : Row) → IsRow literal last row → list_all (nat_le 32) (row_line row) ≡ true
row_printable literal last (Begins text) is = is.printable
row_printable literal last (GoesOn text) is = is.printable

row_some : (row : Row) → 0 < length (row_line row)
row_some (Begins text) = omega arith
row_some (GoesOn text) = omega arith

lines-rows : (literal : Literal) (last : ℕ) (rows : List Row) → AreRows literal last rows → lines (source_of (map row_line rows)) ≡ map row_line rows
lines-rows literal last [] are = refl
lines-rows literal last (row ∷ rows) are =
    first_line (row_line row) (source_of (map row_line rows)) (row_printable literal last row are.0) (row_some row)
    ∙ ap (λ more. row_line row ∷ more) (lines-rows (literal_behind literal row) (last_of 32 (row_text literal row)) rows are.1)

not_space : (b : ℕ) → b ≢ 32 → (b == 32) ≡ false
not_space b h = grind (arith, nat_tests, h)

first_of : (literal : Literal) (last b : ℕ) (text : List ℕ) → TakesUp literal last (b ∷ text) → (b == 32) ≡ false
first_of Closed last b text h = not_space b h.0
first_of InQuotes last b text h = rw h refl
first_of InApostrophes last b text h = rw h refl

-- the columns of a continuation
module _ (text : List ℕ) (short : length text ≤ 61) (printable : list_all (nat_le 32) text ≡ true) where
  card-goes : card_of (row_line (GoesOn text)) ≡ replicate 6 32 ++ (45 ∷ replicate 4 32) ++ filled 61 text
  unfolding card_of
  card-goes =
      let room : 72 ≡ length (row_line (GoesOn text)) + (61 - length text) = omega (arith, short) in
      ap (λ bytes. take 72 (bytes ++ replicate 72 32)) (untabbed-printable 0 (row_line (GoesOn text)) printable)
      ∙ ap (λ n. take n (row_line (GoesOn text) ++ replicate 72 32)) room
      ∙ take-append-add (row_line (GoesOn text)) (replicate 72 32) (61 - length text)
      ∙ ap (λ more. row_line (GoesOn text) ++ more) (take-replicate (61 - length text) 72 32 (omega arith))

  length-filled : length (filled 61 text) ≡ 61
  length-filled = length-append text (replicate (61 - length text) 32) ∙ ap (λ n. length text + n) (length-replicate (61 - length text) 32) ∙ omega (arith, short)

  area-goes : columns 12 72 (card_of (row_line (GoesOn text))) ≡ filled 61 text
  area-goes = ap (λ card. take 61 (drop 11 card)) card-goes ∙ take_all 61 (filled 61 text) (omega (arith, length-filled))

  printable-filled : list_all (nat_le 32) (filled 61 text) ≡ true
  printable-filled = list_all-append (nat_le 32) text (replicate (61 - length text) 32) ∙ ap (λ t. t && list_all (nat_le 32) (replicate (61 - length text) 32)) printable ∙ spaces_printable (61 - length text)

  indicator-goes : indicator (card_of (row_line (GoesOn text))) ≡ 45
  indicator-goes = ap indicator card-goes

  margin-goes : is_blank (columns 8 11 (card_of (row_line (GoesOn text)))) ≡ true
  margin-goes = ap (λ card. is_blank (columns 8 11 card)) card-goes

  clean-goes : has_control (columns 8 72 (card_of (row_line (GoesOn text)))) ≡ false
  clean-goes =
      let area : columns 8 72 (card_of (row_line (GoesOn text))) ≡ replicate 4 32 ++ filled 61 text = ap (λ card. take 65 (drop 7 card)) card-goes ∙ ap (λ rest. 32 ∷ 32 ∷ 32 ∷ 32 ∷ rest) (take_all 61 (filled 61 text) (omega (arith, length-filled))) in
      ap has_control area ∙ no_control (filled 61 text) printable-filled

  some-goes : is_without_text (card_of (row_line (GoesOn text))) ≡ false
  some-goes = ap is_without_text card-goes

is_without : (literal : Literal) (last : ℕ) (row : Row) → IsRow literal last row → is_without_text (card_of (row_line row)) ≡ false
is_without literal last (Begins text) is = some-text text is
is_without literal last (GoesOn text) is = some-goes text is.short is.printable

numbered : ℕ → List Row → List Line
numbered number [] = []
numbered number (row ∷ rows) = line_of number (card_of (row_line row)) ∷ numbered (number + 1) rows

kept-rows : (before : List (List ℕ)) (number : ℕ) (literal : Literal) (last : ℕ) (rows : List Row) → in_entry before ≡ false → AreRows literal last rows →
    NoEntry (list_any is_division before) (map row_line rows) → kept_behind before number (map card_of (map row_line rows)) ≡ numbered number rows
unfolding numbered
kept-rows before number literal last [] out are none = refl
kept-rows before number literal last (row ∷ rows) out are none =
    let card : List ℕ = card_of (row_line row) in
    let still_out : in_entry (card ∷ before) ≡ false = rw (none.0, out) (and-false (entry_goes_on card)) in
    let stays : is_dropped before card ≡ false = rw (is_without literal last row are.0, still_out) refl in
    let rest = kept-rows (card ∷ before) (number + 1) (literal_behind literal row) (last_of 32 (row_text literal row)) rows still_out are.1 none.1 in
    rw stays (ap (λ more. line_of number card ∷ more) rest)

-- a text that ends in no space keeps its end
ends_full : (text : List Placed) (p : Placed) → (p.byte == 32) ≡ false → unspaced_end (text ++ p ∷ []) ≡ text ++ p ∷ []
ends_full text p other =
    let back = reverse-push text p in
    let stays : unspaced_front (reverse (text ++ p ∷ [])) ≡ reverse (text ++ p ∷ []) = ap unspaced_front back ∙ rw other (sym back) in
    ap reverse stays ∙ reverse-reverse (text ++ p ∷ [])

keeps_end : (text : List Placed) (number d b : ℕ) (bytes : List ℕ) → last_of d (b ∷ bytes) ≢ 32 → unspaced_end (text ++ placed number (b ∷ bytes)) ≡ text ++ placed number (b ∷ bytes)
keeps_end text number d b [] h = ends_full text (record { byte = b; line = number }) (not_space b h)
keeps_end text number d b (c ∷ bytes) h =
    let same : (text ++ placed number (b ∷ [])) ++ placed number (c ∷ bytes) ≡ text ++ placed number (b ∷ c ∷ bytes) = append_assoc text (placed number (b ∷ [])) (placed number (c ∷ bytes)) in
    sym (ap unspaced_end same) ∙ keeps_end (text ++ placed number (b ∷ [])) number b c bytes h ∙ same

keeps : (text : List Placed) (number : ℕ) (bytes : List ℕ) → last_of 32 bytes ≢ 32 → unspaced_end (text ++ placed number bytes) ≡ text ++ placed number bytes
keeps text number [] h = absurd (h refl)
keeps text number (b ∷ bytes) h = keeps_end text number 32 b bytes h

-- a continuation has no fault and adds what it takes up
Takes : Literal → ℕ → List Placed → List ℕ → Type 0
Takes literal number text bytes =
    (fault_of (Some number) literal (line_of (number + 1) (card_of (row_line (GoesOn bytes)))) ≡ None)
    × (with_line (Some number) text (line_of (number + 1) (card_of (row_line (GoesOn bytes)))) ≡ text ++ placed (number + 1) (less_mark literal (filled 61 bytes)))

module _ (number : ℕ) (text : List Placed) where
  takes-closed : (last b : ℕ) (bytes : List ℕ) → literal_at_end text ≡ Closed → (last ≢ 32 → unspaced_end text ≡ text) → IsContinuation Closed last (b ∷ bytes) → Takes Closed number text (b ∷ bytes)
  unfolding Takes
  takes-closed last b bytes at_end full is =
      let no : (b == 32) ≡ false = not_space b is.takes_up.0 in
      let whole : List ℕ = b ∷ bytes in
      let stays : unspaced_end text ≡ text = full is.takes_up.1 in (
        rw (indicator-goes whole is.short is.printable, clean-goes whole is.short is.printable, margin-goes whole is.short is.printable, area-goes whole is.short is.printable, no) refl,
        rw (indicator-goes whole is.short is.printable, at_end, area-goes whole is.short is.printable, stays, no) refl,
      )

  takes-quotes : (last : ℕ) (bytes : List ℕ) → literal_at_end text ≡ InQuotes → IsContinuation InQuotes last (34 ∷ bytes) → Takes InQuotes number text (34 ∷ bytes)
  unfolding Takes
  takes-quotes last bytes at_end is =
      let whole : List ℕ = 34 ∷ bytes in (
        rw (indicator-goes whole is.short is.printable, clean-goes whole is.short is.printable, margin-goes whole is.short is.printable, area-goes whole is.short is.printable) refl,
        rw (indicator-goes whole is.short is.printable, at_end, area-goes whole is.short is.printable) refl,
      )

  takes-apostrophes : (last : ℕ) (bytes : List ℕ) → literal_at_end text ≡ InApostrophes → IsContinuation InApostrophes last (39 ∷ bytes) → Takes InApostrophes number text (39 ∷ bytes)
  unfolding Takes
  takes-apostrophes last bytes at_end is =
      let whole : List ℕ = 39 ∷ bytes in (
        rw (indicator-goes whole is.short is.printable, clean-goes whole is.short is.printable, margin-goes whole is.short is.printable, area-goes whole is.short is.printable) refl,
        rw (indicator-goes whole is.short is.printable, at_end, area-goes whole is.short is.printable) refl,
      )

  takes : (literal : Literal) (last : ℕ) (bytes : List ℕ) → literal_at_end text ≡ literal → (last ≢ 32 → unspaced_end text ≡ text) → IsContinuation literal last bytes → Takes literal number text bytes
  takes literal last [] at_end full is = absurd is.takes_up
  takes Closed last (b ∷ bytes) at_end full is = takes-closed last b bytes at_end full is
  takes InQuotes last (b ∷ bytes) at_end full is =
      subst (λ m. IsContinuation InQuotes last (m ∷ bytes) → Takes InQuotes number text (m ∷ bytes)) (sym is.takes_up) (takes-quotes last bytes at_end) is
  takes InApostrophes last (b ∷ bytes) at_end full is =
      subst (λ m. IsContinuation InApostrophes last (m ∷ bytes) → Takes InApostrophes number text (m ∷ bytes)) (sym is.takes_up) (takes-apostrophes last bytes at_end) is

joined-rows : (number : ℕ) (text : List Placed) (literal : Literal) (last : ℕ) (rows : List Row) → literal_at_end text ≡ literal → (last ≢ 32 → unspaced_end text ≡ text) →
    AreRows literal last rows → joined (Some number) text (numbered (number + 1) rows) ≡ Ok (text ++ rows_text number literal rows)
unfolding numbered Takes
joined-rows number text literal last [] at_end full are = ap Ok (sym (append-nil text))
joined-rows number text literal last (Begins bytes ∷ rows) at_end full are =
    let now : List Placed = text ++ placed number (10 ∷ []) ++ placed (number + 1) (filled 65 bytes) in
    let closed : literal_at_end (text ++ placed number (10 ∷ [])) ≡ Closed = line_ends text number in
    let behind_it : literal_at_end now ≡ behind Closed (filled 65 bytes) =
    literal_at_end-placed (text ++ placed number (10 ∷ [])) (number + 1) (filled 65 bytes) ∙ ap (λ l. behind l (filled 65 bytes)) closed in
    let stays : last_of 32 (filled 65 bytes) ≢ 32 → unspaced_end now ≡ now =
    λ h. keeps (text ++ placed number (10 ∷ [])) (number + 1) (filled 65 bytes) h in
    let rest = joined-rows (number + 1) now (behind Closed (filled 65 bytes)) (last_of 32 (filled 65 bytes)) rows behind_it stays are.1 in
    rw (no_fault bytes are.0 (Some number) (number + 1) text, with_line-plain bytes are.0 (Some number) (number + 1) text) (rest ∙ ap Ok (simp append_assoc))
  where
    line_ends : (text : List Placed) (number : ℕ) → literal_at_end (text ++ placed number (10 ∷ [])) ≡ Closed
    line_ends text number = literal_at_end-placed text number (10 ∷ []) ∙ closes (literal_at_end text)
      where
        closes : (literal : Literal) → behind_byte literal 10 ≡ Closed
        closes Closed = refl
        closes InQuotes = refl
        closes InApostrophes = refl
joined-rows number text literal last (GoesOn bytes ∷ rows) at_end full are =
    let took : Takes literal number text bytes = takes number text literal last bytes at_end full are.0 in
    let adds : List ℕ = less_mark literal (filled 61 bytes) in
    let now : List Placed = text ++ placed (number + 1) adds in
    let behind_it : literal_at_end now ≡ behind literal adds = literal_at_end-placed text (number + 1) adds ∙ ap (λ l. behind l adds) at_end in
    let rest = joined-rows (number + 1) now (behind literal adds) (last_of 32 adds) rows behind_it (keeps text (number + 1) adds) are.1 in
    rw (took.1, at_end, took.0) (rest ∙ ap Ok (simp append_assoc))

pub rows_are_read : RowsAreRead
unfolding program_text kept_lines numbered
rows_are_read text rows are none =
    let all : List Row = Begins text ∷ rows in
    let kept : kept_lines (source_of (map row_line all)) ≡ numbered 1 all = ap (λ found. kept_behind [] 1 (map card_of found)) (lines-rows Closed 0 all are) ∙ kept-rows [] 1 Closed 0 all refl are none in
    let adds : List ℕ = filled 65 text in
    let at_end : literal_at_end (placed 1 adds) ≡ behind Closed adds = literal_at_end-placed [] 1 adds in
    let rest = joined-rows 1 (placed 1 adds) (behind Closed adds) (last_of 32 adds) rows at_end (keeps [] 1 adds) are.1 in
    ap (joined None []) kept ∙ rw (no_fault text are.0 None 1 [], with_line-plain text are.0 None 1 []) rest
