-- Sources with nothing in them that the format treats in its own way.
use Rattle.std.proofs.Common.{◌≡◌, ℕ, suc, ◌+◌, ◌-◌, ◌≤◌, ◌==◌, ◌&&◌, nat_le, nat_lt, Bool, true, false, zero, List, [], ◌∷◌, ◌++◌, length, map, take, drop, replicate, get_or, Option, Some, None, Ok, sym, ap, refl, ◌∙◌, arith, append_assoc, append-nil}
use Rattle.std.specs.Prelude.{All}
use Rattle.std.specs.List.{list_all, list_any}
use Rattle.std.specs.Str.Lines.{lines, strip_carriage_return}
use Rattle.std.proofs.Math.Seq.{take-append-add}
use Rattle.std.proofs.lemmas.Bool.Decides.{nat_tests}
use Rattle.std.proofs.lemmas.List.{length-append, length-replicate, take-replicate, take_all}
use Rattle.std.proofs.lemmas.List.Elements.{All-head, All-tail, All-weaker}
use Rattle.std.proofs.lemmas.List.Folds.{list_all-append}
use Rattle.std.proofs.lemmas.List.Splits.{slice_split_at}
use Rattle.std.proofs.lemmas.List.Sums.{AllPass-from_list_all}
use Rattle.ref_format.specs.declared.placed.Placed.{Placed}
use Rattle.ref_format.specs.Column.{card_of, untabbed, columns, indicator, is_blank, has_control, filled}
use Rattle.ref_format.specs.Entry.{is_division, entry_goes_on, in_entry, is_without_text, is_dropped, NoEntry}
use Rattle.ref_format.specs.Line.{Line, kept_behind, kept_lines, line_of, source_of}
use Rattle.ref_format.specs.Placed.{placed}
use Rattle.ref_format.specs.Joining.{literal_at_end, line_end, with_line, fault_of, joined, program_text}
use Rattle.ref_format.specs.Plain.{IsPlainLine, plain_line, laid_behind}
use Rattle.ref_format.specs.Laws.{PlainLinesAreRead}
use Rattle.ref_format.proofs.LineLemmas.{ends, lines_split}

-- without control characters there is no tab
pub untabbed-printable : (before : ℕ) (bytes : List ℕ) → list_all (nat_le 32) bytes ≡ true → untabbed before bytes ≡ bytes
untabbed-printable before [] e = refl
untabbed-printable before (b ∷ bytes) e =
    let high : 32 ≤ b = grind (arith, nat_tests, e) in
    let rest : list_all (nat_le 32) bytes ≡ true = grind (arith, nat_tests, e) in
    let no : (b == 9) ≡ false = grind (arith, nat_tests, high) in
    rw no (ap (λ more. b ∷ more) (untabbed-printable (before + 1) bytes rest))

pub no_control : (bytes : List ℕ) → list_all (nat_le 32) bytes ≡ true → has_control bytes ≡ false
no_control [] e = refl
no_control (b ∷ bytes) e =
    let high : 32 ≤ b = grind (arith, nat_tests, e) in
    let rest : list_all (nat_le 32) bytes ≡ true = grind (arith, nat_tests, e) in
    let no : nat_lt b 32 ≡ false = grind (arith, nat_tests, high) in
    rw no (no_control bytes rest)

pub spaces_printable : (n : ℕ) → list_all (nat_le 32) (replicate n 32) ≡ true
spaces_printable zero = refl
spaces_printable (suc n) = spaces_printable n

pub and-false : (b : Bool) → (b && false) ≡ false
and-false true = refl
and-false false = refl

module _ (text : List ℕ) (plain : IsPlainLine text) where
  pub card-plain : card_of (plain_line text) ≡ replicate 7 32 ++ filled 65 text
  unfolding card_of
  card-plain =
      let whole : length (plain_line text) ≡ 7 + length text = length-append (replicate 7 32) text in
      let room : 72 ≡ length (plain_line text) + (65 - length text) = omega (arith, whole, plain.short) in
      ap (λ bytes. take 72 (bytes ++ replicate 72 32)) (untabbed-printable 0 (plain_line text) plain.printable)
      ∙ ap (λ n. take n (plain_line text ++ replicate 72 32)) room
      ∙ take-append-add (plain_line text) (replicate 72 32) (65 - length text)
      ∙ ap (λ more. plain_line text ++ more) (take-replicate (65 - length text) 72 32 (omega arith))
      ∙ append_assoc (replicate 7 32) text (replicate (65 - length text) 32)

  length-padded : length (filled 65 text) ≡ 65
  length-padded = length-append text (replicate (65 - length text) 32) ∙ ap (λ n. length text + n) (length-replicate (65 - length text) 32) ∙ omega (arith, plain.short)

  area-plain : columns 8 72 (card_of (plain_line text)) ≡ filled 65 text
  area-plain = ap (λ card. take 65 (drop 7 card)) card-plain ∙ take_all 65 (filled 65 text) (omega (arith, length-padded))

  indicator-plain : indicator (card_of (plain_line text)) ≡ 32
  indicator-plain = ap indicator card-plain

  printable-padded : list_all (nat_le 32) (filled 65 text) ≡ true
  printable-padded = list_all-append (nat_le 32) text (replicate (65 - length text) 32) ∙ ap (λ t. t && list_all (nat_le 32) (replicate (65 - length text) 32)) plain.printable ∙ spaces_printable (65 - length text)

  pub some-text : is_without_text (card_of (plain_line text)) ≡ false
  some-text =
      let text_at : columns 7 72 (card_of (plain_line text)) ≡ 32 ∷ filled 65 text = ap (λ card. take 66 (drop 6 card)) card-plain ∙ ap (λ rest. 32 ∷ rest) (take_all 65 (filled 65 text) (omega (arith, length-padded))) in
      let not_blank : is_blank (filled 65 text) ≡ false = list_all-append (λ b. b == 32) text (replicate (65 - length text) 32) ∙ ap (λ t. t && is_blank (replicate (65 - length text) 32)) plain.some in
      rw (indicator-plain, text_at) not_blank

  pub no_fault : (last : Option ℕ) (number : ℕ) (before : List Placed) → fault_of last (literal_at_end before) (line_of number (card_of (plain_line text))) ≡ None
  no_fault last number before =
      let clean : has_control (columns 8 72 (card_of (plain_line text))) ≡ false = ap has_control area-plain ∙ no_control (filled 65 text) printable-padded in
      rw (indicator-plain, clean) refl

  pub with_line-plain : (last : Option ℕ) (number : ℕ) (before : List Placed) → with_line last before (line_of number (card_of (plain_line text))) ≡ before ++ line_end last ++ placed number (filled 65 text)
  with_line-plain last number before = rw (indicator-plain, area-plain) refl

  first-plain : (rest : List ℕ) → lines (plain_line text ++ 10 ∷ rest) ≡ plain_line text ∷ lines rest
  first-plain rest =
      let high : All (λ b. nat_le 32 b ≡ true) (plain_line text) = AllPass-from_list_all (nat_le 32) (plain_line text) plain.printable in
      let inner : All (λ b. ends b ≡ false) (plain_line text) = All-weaker (λ b. nat_le 32 b ≡ true) (λ b. ends b ≡ false) (λ b h. grind (arith, nat_tests, h)) (plain_line text) high in
      let last : nat_le 32 (get_or (plain_line text) (length (plain_line text) - 1) 0) ≡ true = high (length (plain_line text) - 1) 0 (omega arith) in
      let no_return : (get_or (plain_line text) (length (plain_line text) - 1) 0 == 13) ≡ false = grind (arith, nat_tests, last) in
      let stays : strip_carriage_return (plain_line text) ≡ plain_line text = rw no_return refl in
      lines_split (plain_line text ++ 10 ∷ rest) (plain_line text) rest (slice_split_at ends (plain_line text) 10 rest inner refl) ∙ ap (λ line. line ∷ lines rest) stays

-- the lines of a plain source
lines-plain : (texts : List (List ℕ)) → All IsPlainLine texts → lines (source_of (map plain_line texts)) ≡ map plain_line texts
lines-plain [] plain = refl
lines-plain (text ∷ texts) plain =
    first-plain text (All-head IsPlainLine text texts plain) (source_of (map plain_line texts)) ∙ ap (λ rest. plain_line text ∷ rest) (lines-plain texts (All-tail IsPlainLine text texts plain))

numbered : ℕ → List (List ℕ) → List Line
numbered number [] = []
numbered number (text ∷ texts) = line_of number (card_of (plain_line text)) ∷ numbered (number + 1) texts

kept-plain : (before : List (List ℕ)) (number : ℕ) (texts : List (List ℕ)) → in_entry before ≡ false → All IsPlainLine texts → NoEntry (list_any is_division before) (map plain_line texts) → kept_behind before number (map card_of (map plain_line texts)) ≡ numbered number texts
unfolding numbered
kept-plain before number [] out plain none = refl
kept-plain before number (text ∷ texts) out plain none =
    let here : IsPlainLine text = All-head IsPlainLine text texts plain in
    let card : List ℕ = card_of (plain_line text) in
    let still_out : in_entry (card ∷ before) ≡ false = rw (none.0, out) (and-false (entry_goes_on card)) in
    let stays : is_dropped before card ≡ false = rw (some-text text here, still_out) refl in
    let rest = kept-plain (card ∷ before) (number + 1) texts still_out (All-tail IsPlainLine text texts plain) none.1 in
    rw stays (ap (λ lines'. line_of number card ∷ lines') rest)

joined-plain : (last : ℕ) (before : List Placed) (texts : List (List ℕ)) → All IsPlainLine texts → joined (Some last) before (numbered (last + 1) texts) ≡ Ok (before ++ laid_behind last texts)
unfolding numbered
joined-plain last before [] plain = ap Ok (sym (append-nil before))
joined-plain last before (text ∷ texts) plain =
    let here : IsPlainLine text = All-head IsPlainLine text texts plain in
    let now : List Placed = before ++ placed last (10 ∷ []) ++ placed (last + 1) (filled 65 text) in
    let rest = joined-plain (last + 1) now texts (All-tail IsPlainLine text texts plain) in
    rw (no_fault text here (Some last) (last + 1) before, with_line-plain text here (Some last) (last + 1) before) (rest ∙ ap Ok (simp append_assoc))

pub plain_lines_are_read : PlainLinesAreRead
unfolding program_text kept_lines numbered
plain_lines_are_read [] all none = refl
plain_lines_are_read (text ∷ texts) all none =
    let here : IsPlainLine text = All-head IsPlainLine text texts all in
    let kept : kept_lines (source_of (map plain_line (text ∷ texts))) ≡ numbered 1 (text ∷ texts) = ap (λ found. kept_behind [] 1 (map card_of found)) (lines-plain (text ∷ texts) all) ∙ kept-plain [] 1 (text ∷ texts) refl all none in
    let rest = joined-plain 1 (placed 1 (filled 65 text)) texts (All-tail IsPlainLine text texts all) in
    ap (joined None []) kept ∙ rw (no_fault text here None 1 [], with_line-plain text here None 1 []) rest
