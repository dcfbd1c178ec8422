-- Files, entries and their pictures.
use Rattle.std.proofs.Common.{◌≡◌, ℕ, zero, suc, ◌+◌, ◌-◌, ◌%◌, ◌^◌, ◌<◌, ◌≤◌, Bool, true, false, not, ◌&&◌, List, [], ◌∷◌, ◌++◌, length, take, map, Option, Some, None, refl, ap, sym, ◌∙◌, subst, arith, get_or, cond}
use Rattle.std.specs.Prelude.{codes, decimal, slice_index, is_some, nat_le, nat_lt, ◌||◌, ◌==◌, if◌then◌else◌}
use Rattle.std.specs.Char.{to_ascii_uppercase}
use Rattle.std.specs.List.{list_all, prefix_len}
use Rattle.std.specs.Str.{byte}
use Rattle.std.proofs.lemmas.Bool.{and_parts, eqb-true, leb-true, ltb-true, not-true}
use Rattle.std.proofs.lemmas.Bool.Decides.{nat_tests}
use Rattle.std.proofs.lemmas.Fmt.{decimal_by_steps, decimal_nonempty, length-decimal-le}
use Rattle.std.proofs.lemmas.List.{length-append}
use Rattle.std.proofs.lemmas.List.Folds.{list_all-append}
use Rattle.std.proofs.lemmas.List.Sums.{AllPass-from_list_all}
use Rattle.cob_base.specs.Bytes.{comma, digit_0, left_parenthesis, right_parenthesis}
use Rattle.cob_base.specs.Spelling.{word_byte}
use Rattle.cob_tree.specs.declared.entry.Entry.{Entry}
use Rattle.cob_tree.specs.declared.entry.Span.{Span}
use Rattle.cob_tree.specs.declared.file.FileEntry.{FileEntry}
use Rattle.cob_tree.specs.declared.picture.Picture.{Picture}
use Rattle.cob_tree.specs.declared.picture.Picture.TheVariants as pictures
use Rattle.cob_tree.specs.declared.picture.Sign.{Sign}
use Rattle.cob_tree.specs.declared.picture.Sign.TheVariants.{Within, SeparateLeading, SeparateTrailing}
use Rattle.cob_tree.specs.declared.picture.Usage.{Usage}
use Rattle.cob_tree.specs.declared.picture.Usage.TheVariants.{Display, Binary, Packed}
use Rattle.cob_tree.specs.declared.place.Operand.{Operand}
use Rattle.cob_tree.specs.declared.place.Place.{Place}
use Rattle.cob_tree.specs.declared.program.Program.{Program}
use Rattle.edit_fields.specs.declared.fault.MaskFault.{MaskFault}
use Rattle.edit_fields.specs.Mask.{IsHeldMask}
use Rattle.edit_fields.specs.Reading.{is_written_out, mask_fault_of}
use Rattle.cobol_lex.specs.Byte.{is_digit, is_white, is_separator}
use Rattle.cobol_lex.specs.Picture.{ends_picture}
use Rattle.cobol_lex.specs.Word.{spells, word_run}
use Rattle.cobol_lex.specs.Written.{AreDigits}
use Rattle.cobol_lex.specs.declared.token.TokenKind.TheVariants as kind
use Rattle.control_flow_theory.specs.language.All.{all}
use Rattle.program_facts.specs.well_scoped.Part.{if_any}
use Rattle.program_facts.proofs.well_scoped_lemmas.Made.{both}
use Rattle.unparser.specs.Place.{entry_name}
use Rattle.cobol_print.specs.units.Picture.{run_text, some_run, part_text, picture_text}
use Rattle.cobol_print.specs.units.Entry.{level_text, redefines_tokens, usage_tokens, sign_tokens, occurs_tokens, value_tokens, thru_operand, span_tokens, spans_tokens, ranges_tokens}
use Rattle.cobol_print.specs.units.Division.{select_tokens, status_tokens}
use Rattle.cobol_print.specs.Given.{IsPrintable, IsGivenPicture, IsGivenFile, IsGivenEntry, file_of}
use Rattle.cobol_print.specs.Unit.{is_ink}
use Rattle.cobol_print.proofs.MaskLemmas.{mask-printable}
use Rattle.round_trip.specs.printable.printable_tokens.Printable.{is_printable_text}
use Rattle.round_trip.proofs.printable_lemmas.Free.{text-free}
use Rattle.round_trip.specs.printable.Part.{is_printable_name, is_printable_place, is_printable_operand}
use Rattle.round_trip.specs.printable.Whole.{is_printable_file, is_capital, is_printable_mask, is_printable_picture, is_printable_span, is_printable_count, is_printable_entry}
use Rattle.round_trip.proofs.printable_lemmas.Tokens.{Fits, none, word, printable-name, entry-free, entry-fine, ◌∷∷◌, ◌+++◌}
use Rattle.round_trip.proofs.printable_lemmas.Places as places
use Rattle.round_trip.proofs.printable_lemmas.Statements.{HasNames}

-- ---- numbers in decimal

one-digit : (n : ℕ) → n < 10 → list_all is_digit ((48 + n) ∷ []) ≡ true
one-digit n h = grind (arith, nat_tests)

more-digits : (ds : List ℕ) (b : ℕ) → list_all is_digit ds ≡ true → list_all is_digit (b ∷ []) ≡ true → list_all is_digit (ds ++ b ∷ []) ≡ true
more-digits ds b h k = list_all-append is_digit ds (b ∷ []) ∙ both h k

decimal-all : (n : ℕ) → n < 2 ^ 64 → list_all is_digit (decimal n) ≡ true
decimal-all = decimal_by_steps (λ n ds. list_all is_digit ds ≡ true) one-digit
    (λ n ds h digits. more-digits ds (48 + n % 10) digits (one-digit (n % 10) (omega arith)))

level-digits : (level : ℕ) → level < 100 → AreDigits (level_text level)
level-digits level h = go (nat_lt level 10)
  where
    small : level < 2 ^ 64
    small = omega (arith, h)

    few : length (decimal level) ≤ 2
    few = length-decimal-le 2 level (omega arith) (omega (arith, h)) small

    go : (v : Bool) → AreDigits ((if v then digit_0 ∷ [] else []) ++ decimal level)
    go true = record { some = omega arith; few = omega (arith, few); digits_only = both refl (decimal-all level small) }
    go false = record { some = decimal_nonempty level small; few = omega (arith, few); digits_only = decimal-all level small }

count-digits : (count : ℕ) → count < 10 ^ 18 → AreDigits (decimal count)
count-digits count h =
    let small : count < 2 ^ 64 = omega (arith, h) in
    record { some = decimal_nonempty count small; few = length-decimal-le 18 count (omega arith) h small; digits_only = decimal-all count small }

-- ---- pictures

-- a byte of a picture
abbrev is_symbol : ℕ → Bool
is_symbol b = b == 65 || b == 83 || b == 86 || b == 88 || b == 40 || b == 41 || is_digit b

digit-symbol : (b : ℕ) → is_digit b ≡ true → is_symbol b ≡ true
digit-symbol b h = grind (arith, nat_tests)

symbol-filled : (b : ℕ) → is_symbol b ≡ true → not (is_white b) ≡ true
symbol-filled b h = grind (arith, nat_tests)

symbol-ink : (b : ℕ) → is_symbol b ≡ true → is_ink b ≡ true
symbol-ink b h = grind (arith, nat_tests)

symbol-begins : (b : ℕ) → is_symbol b ≡ true → is_separator b ≡ false
symbol-begins b h = grind (arith, nat_tests)

symbol-ends : (b : ℕ) → is_symbol b ≡ true → ends_picture b ≡ false
symbol-ends b h = grind (arith, nat_tests)

symbol-other : (b : ℕ) → is_symbol b ≡ true → (to_ascii_uppercase b == 73) ≡ false
symbol-other b h = grind (arith, nat_tests)

each : (p q : ℕ → Bool) → ((b : ℕ) → p b ≡ true → q b ≡ true) → (bytes : List ℕ) → list_all p bytes ≡ true → list_all q bytes ≡ true
each p q h [] e = refl
each p q h (b ∷ bytes) e = let k = and_parts (p b) (list_all p bytes) e in both (h b k.0) (each p q h bytes k.1)

-- symbols, up to so many
pub record AreSymbols (most : ℕ) (text : List ℕ) : Type 0 where
  pub symbols : list_all is_symbol text ≡ true
  pub few : length text ≤ most

symbols-beside : (m n : ℕ) (front back : List ℕ) → AreSymbols m front → AreSymbols n back → AreSymbols (m + n) (front ++ back)
symbols-beside m n front back h k =
    let sum : length (front ++ back) ≡ length front + length back = length-append front back in
    record { symbols = list_all-append is_symbol front back ∙ both h.symbols k.symbols; few = omega (arith, sum, h.few, k.few) }

run-symbols : (symbol count : ℕ) → is_symbol symbol ≡ true → count ≤ 65535 → AreSymbols 8 (run_text symbol count)
run-symbols symbol count s h = go (count == 1)
  where
    small : count < 2 ^ 64
    small = omega (arith, h)

    few : length (decimal count) ≤ 5
    few = length-decimal-le 5 count (omega arith) (omega (arith, h)) small

    digits : AreSymbols 5 (decimal count)
    digits = record { symbols = each is_digit is_symbol digit-symbol (decimal count) (decimal-all count small); few = few }

    counted : AreSymbols 6 (decimal count ++ right_parenthesis ∷ [])
    counted = symbols-beside 5 1 (decimal count) (right_parenthesis ∷ []) digits (record { symbols = refl; few = omega arith })

    go : (v : Bool) → AreSymbols 8 (symbol ∷ (if v then [] else left_parenthesis ∷ decimal count ++ right_parenthesis ∷ []))
    go true = record { symbols = both s refl; few = omega arith }
    go false = record { symbols = both s (both refl counted.symbols); few = omega (arith, counted.few) }

none-symbols : (most : ℕ) → AreSymbols most []
none-symbols most = record { symbols = refl; few = omega arith }

some-symbols : (count : ℕ) → count ≤ 65535 → AreSymbols 8 (some_run count)
some-symbols count h = go (count == 0)
  where
    go : (v : Bool) → AreSymbols 8 (if v then [] else run_text (byte "9") count)
    go true = none-symbols 8
    go false = run-symbols (byte "9") count refl h

part-symbols : (count : ℕ) → count ≤ 65535 → AreSymbols 9 (part_text count)
part-symbols count h = go (count == 0)
  where
    run : AreSymbols 8 (run_text (byte "9") count)
    run = run-symbols (byte "9") count refl h

    go : (v : Bool) → AreSymbols 9 (if v then [] else byte "V" ∷ run_text (byte "9") count)
    go true = none-symbols 9
    go false = record { symbols = both refl run.symbols; few = omega (arith, run.few) }

sign-symbols : (signed : Bool) → AreSymbols 1 (if signed then codes "S" else [])
sign-symbols true = record { symbols = refl; few = omega arith }
sign-symbols false = none-symbols 1

number-symbols : (signed : Bool) (whole part : ℕ) → whole + part ≤ 18 → AreSymbols 18 (picture_text (pictures.Number signed whole part))
number-symbols signed whole part few =
    symbols-beside 9 9 _ (part_text part)
    (symbols-beside 1 8 _ (some_run whole) (sign-symbols signed) (some-symbols whole (omega (arith, few))))
    (part-symbols part (omega (arith, few)))

text-symbols : (symbol count : ℕ) → is_symbol symbol ≡ true → (nat_le 1 count && nat_le count 65535) ≡ true → AreSymbols 18 (run_text symbol count)
text-symbols symbol count s h =
    let run = run-symbols symbol count s (leb-true count 65535 (and_parts (nat_le 1 count) (nat_le count 65535) h).1) in
    record { symbols = run.symbols; few = omega (arith, run.few) }

behind-some : (front back : List ℕ) → 0 < length back → 0 < length (front ++ back)
behind-some front back h = let sum : length (front ++ back) ≡ length front + length back = length-append front back in omega (arith, sum, h)

before-some : (front back : List ℕ) → 0 < length front → 0 < length (front ++ back)
before-some front back h = let sum : length (front ++ back) ≡ length front + length back = length-append front back in omega (arith, sum, h)

not-zero : (count : ℕ) → 1 ≤ count → (count == 0) ≡ false
not-zero count h = grind (arith, nat_tests)

-- what stands where the count isn't 0
counted-some : (count : ℕ) (text : List ℕ) → 1 ≤ count → 0 < length text → 0 < length (if count == 0 then [] else text)
counted-some count text h some = subst (λ v. 0 < length (if v then [] else text)) (sym (not-zero count h)) some

number-some : (sign : List ℕ) (whole part : ℕ) → 1 ≤ whole + part → 0 < length (sign ++ some_run whole ++ part_text part)
number-some sign zero part h =
    behind-some (sign ++ some_run 0) (part_text part) (counted-some part (byte "V" ∷ run_text (byte "9") part) (omega (arith, h)) (omega arith))
number-some sign (suc whole) part h =
    before-some (sign ++ some_run (suc whole)) (part_text part)
    (behind-some sign (some_run (suc whole)) (counted-some (suc whole) (run_text (byte "9") (suc whole)) (omega arith) (omega arith)))

one-more : (n b : ℕ) (text : List ℕ) → take (1 + n) (b ∷ text) ≡ b ∷ take n text
one-more n b text = let one : 1 + n ≡ suc n = omega arith in ap (λ k. take k (b ∷ text)) one

-- no picture begins by the word IS
is-other : (text : List ℕ) → list_all is_symbol text ≡ true → spells (codes "IS") (word_run text) ≡ false
is-other [] h = refl
is-other (b ∷ text) h = go (word_byte b)
  where
    first : (to_ascii_uppercase b == 73) ≡ false
    first = symbol-other b (and_parts (is_symbol b) (list_all is_symbol text) h).0

    both-false : (x y : Bool) → x ≡ false → (x && y) ≡ false
    both-false true y e = absurd cc
    both-false false y e = refl

    go : (v : Bool) → spells (codes "IS") (take (cond v (1 + prefix_len word_byte text) 0) (b ∷ text)) ≡ false
    go true = ap (spells (codes "IS")) (one-more (prefix_len word_byte text) b text) ∙ both-false (to_ascii_uppercase b == 73) _ first
    go false = refl

printable : (text : List ℕ) → AreSymbols 18 text → 0 < length text → IsPrintable text
printable text h some =
    let at = AllPass-from_list_all is_symbol text h.symbols in
    record {
      whole = record {
        some = some;
        filled = each is_symbol (λ b. not (is_white b)) symbol-filled text h.symbols;
        begun = symbol-begins (get_or text 0 0) (at 0 0 some);
        ended = symbol-ends (get_or text (length text - 1) 0) (at (length text - 1) 0 (omega (arith, some)));
      };
      short = omega (arith, h.few);
      ink = each is_symbol is_ink symbol-ink text h.symbols;
      other = is-other text h.symbols;
    }

-- a mask as a program holds it
held : (mask : List ℕ) → is_printable_mask mask ≡ true → IsHeldMask mask × ((slice_index mask 0 == comma) ≡ false)
held mask h =
    let e = and_parts (not (is_some (mask_fault_of mask)) && is_written_out mask && list_all is_capital mask) (not (slice_index mask 0 == comma)) h in
    let f = and_parts (not (is_some (mask_fault_of mask)) && is_written_out mask) (list_all is_capital mask) e.0 in
    let g = and_parts (not (is_some (mask_fault_of mask))) (is_written_out mask) f.0 in
    (record { is_mask = record { no_fault = none (mask_fault_of mask) g.0; written_out = g.1 }; capitals = capitals mask f.1 }, not-true (slice_index mask 0 == comma) e.1)
  where
    none : (o : Option MaskFault) → not (is_some o) ≡ true → o ≡ None
    none None e = refl
    none (Some fault) e = absurd cc

    capitals : (mask : List ℕ) → list_all is_capital mask ≡ true → map to_ascii_uppercase mask ≡ mask
    capitals [] e = refl
    capitals (b ∷ mask) e =
        let k = and_parts (is_capital b) (list_all is_capital mask) e in
        ap (λ c. c ∷ map to_ascii_uppercase mask) (eqb-true (to_ascii_uppercase b) b k.0) ∙ ap (λ rest. b ∷ rest) (capitals mask k.1)

picture-given : (picture : Option Picture) → if_any is_printable_picture picture ≡ true → IsGivenPicture picture
picture-given None h = tt
picture-given (Some (pictures.Number signed whole part)) h =
    let e = and_parts (nat_le 1 (whole + part)) (nat_le (whole + part) 18) h in
    printable (picture_text (pictures.Number signed whole part)) (number-symbols signed whole part (leb-true (whole + part) 18 e.1))
    (number-some (if signed then codes "S" else []) whole part (leb-true 1 (whole + part) e.0))
picture-given (Some (pictures.Letters count)) h = printable (picture_text (pictures.Letters count)) (text-symbols (byte "A") count refl h) (omega arith)
picture-given (Some (pictures.Any count)) h = printable (picture_text (pictures.Any count)) (text-symbols (byte "X") count refl h) (omega arith)
picture-given (Some (pictures.Edited mask)) h = let k = held mask h in mask-printable mask k.0 k.1

-- ---- files

module _ (program : Program) (names : HasNames program) where
  status-free : (status : Option Place) → if_any is_printable_place status ≡ true → Fits (status_tokens program status)
  status-free None h = none
  status-free (Some place) h =
      word (codes "FILE") refl ∷∷ word (codes "STATUS") refl ∷∷ word (codes "IS") refl ∷∷ places.place-free program names.items place h

  select-free : (file : FileEntry) → is_printable_name file.name ≡ true → is_printable_text file.assign ≡ true → Fits (select_tokens file)
  select-free file n t =
      word (codes "SELECT") refl ∷∷ printable-name file.name n ∷∷ word (codes "ASSIGN") refl ∷∷ word (codes "TO") refl
      ∷∷ record { free = text-free file.assign t } ∷∷ none

  pub file-given : (file : FileEntry) → is_printable_file file ≡ true → IsGivenFile program file
  file-given file h =
      let e = and_parts (is_printable_name file.name && is_printable_text file.assign) (if_any is_printable_place file.status) h in
      let f = and_parts (is_printable_name file.name) (is_printable_text file.assign) e.0 in
      (select-free file f.0 f.1 +++ status-free file.status e.1).free

  -- ---- entries

  redefines-free : (number : Option ℕ) → Fits (redefines_tokens program number)
  redefines-free None = none
  redefines-free (Some number) = word (codes "REDEFINES") refl ∷∷ names.items number ∷∷ none

  usage-free : (usage : Usage) → Fits (usage_tokens usage)
  usage-free Display = none
  usage-free Binary = word (codes "BINARY") refl ∷∷ none
  usage-free Packed = word (codes "PACKED-DECIMAL") refl ∷∷ none

  sign-free : (sign : Sign) → Fits (sign_tokens sign)
  sign-free Within = none
  sign-free SeparateLeading = word (codes "SIGN") refl ∷∷ word (codes "LEADING") refl ∷∷ word (codes "SEPARATE") refl ∷∷ none
  sign-free SeparateTrailing = word (codes "SIGN") refl ∷∷ word (codes "TRAILING") refl ∷∷ word (codes "SEPARATE") refl ∷∷ none

  occurs-free : (count : Option ℕ) → if_any is_printable_count count ≡ true → Fits (occurs_tokens count)
  occurs-free None h = none
  occurs-free (Some count) h = word (codes "OCCURS") refl ∷∷ record { free = (count-digits count (ltb-true count (10 ^ 18) h), tt) } ∷∷ none

  value-free : (value : Option Operand) → if_any is_printable_operand value ≡ true → Fits (value_tokens program value)
  value-free None h = none
  value-free (Some value) h = word (codes "VALUE") refl ∷∷ places.operand-free program names.items value h

  thru-free : (to : Option Operand) → if_any is_printable_operand to ≡ true → Fits (thru_operand program to)
  thru-free None h = none
  thru-free (Some to) h = word (codes "THRU") refl ∷∷ places.operand-free program names.items to h

  span-free : (span : Span) → is_printable_span span ≡ true → Fits (span_tokens program span)
  span-free span h =
      let e = and_parts (is_printable_operand span.from) (if_any is_printable_operand span.to) h in
      places.operand-free program names.items span.from e.0 +++ thru-free span.to e.1

  spans-free : (spans : List Span) → all (map is_printable_span spans) ≡ true → Fits (spans_tokens program spans)
  spans-free [] h = none
  spans-free (span ∷ spans) h =
      let e = and_parts (is_printable_span span) (all (map is_printable_span spans)) h in span-free span e.0 +++ spans-free spans e.1

  ranges-free : (spans : List Span) → all (map is_printable_span spans) ≡ true → Fits (ranges_tokens program spans)
  ranges-free [] h = none
  ranges-free (span ∷ spans) h = word (codes "VALUE") refl ∷∷ spans-free (span ∷ spans) h

  file_of-free : (file : Option ℕ) → Fits (file_of program file)
  file_of-free None = none
  file_of-free (Some file) = names.files file

  front-free : (entry : Entry) → is_printable_entry entry ≡ true →
      Fits (kind.Digits (level_text entry.level) ∷ kind.Word (entry_name (Some entry)) ∷ redefines_tokens program entry.redefines)
  front-free entry h =
      record { free = (level-digits entry.level (ltb-true entry.level 100 (entry-fine entry h).level), tt) } ∷∷ entry-free entry h ∷∷ redefines-free entry.redefines

  pub entry-given : (entry : Entry) → is_printable_entry entry ≡ true → IsGivenEntry program entry
  entry-given entry h =
      let fine = entry-fine entry h in
      record {
        file = (file_of-free entry.file).free;
        front = (front-free entry h).free;
        picture = picture-given entry.picture fine.picture;
        back = (usage-free entry.usage +++ (sign-free entry.sign +++ (occurs-free entry.occurs fine.occurs +++ (value-free entry.value fine.value +++ ranges-free entry.ranges fine.ranges)))).free;
      }
