-- What is printed of a mask has at most 50 bytes.
use Rattle.std.proofs.Common.{◌≡◌, ℕ, zero, suc, ◌+◌, ◌/◌, ◌%◌, ◌<◌, ◌≤◌, true, false, not, ◌==◌, ◌&&◌, if◌then◌else◌, List, [], ◌∷◌, length, map, Ok, Some, None, inl, inr, refl, sym, ap, ◌∙◌, subst, arith, add-one, nat_le, nat_lt}
use Rattle.std.proofs.lemmas.Bool.{and_parts, cases_Bool, eq-eqb, eqb-true, ne_eqb, leb-true, lt-leb, not-true}
use Rattle.std.specs.Char.{to_ascii_uppercase}
use Rattle.edit_fields.specs.declared.shape.Shape.{Shape}
use Rattle.edit_fields.specs.declared.extent.Extent.{Extent}
use Rattle.edit_fields.specs.declared.reading.SymbolPlace.{SymbolPlace}
use Rattle.edit_fields.specs.declared.reading.SymbolPlace.TheVariants as places
use Rattle.edit_fields.specs.declared.reading.Reading.{Reading}
use Rattle.edit_fields.specs.Shape.{behind, digits, empty, is_whole, tally}
use Rattle.edit_fields.specs.Extent.{ends_well, is_short, longer, no_extent, run_size}
use Rattle.edit_fields.specs.Reading.{end_fault, fault_from, is_counting, is_parenthesis, is_written_out, last_position, left_parenthesis, right_parenthesis, start, step}
use Rattle.edit_fields.specs.Laws.{PrintedMasksAreShort, count_text, printed_from, run_text}
use Rattle.edit_fields.proofs.BranchLemmas.{either_way, then_taken, else_taken}
use Rattle.edit_fields.proofs.MaskLemmas.{goes_on_symbol}
use Rattle.edit_fields.proofs.MasksAreWrittenOut.{at, longer_last, none_some, not_left}
use Rattle.edit_fields.proofs.PrintedMasksAreRead.{capital_first, capital_rest, end_good, mask_short}

-- ---- the length of a run

count_length : (symbol k : ℕ) (more : List ℕ) → length (symbol ∷ left_parenthesis ∷ count_text k (right_parenthesis ∷ more)) ≡ (if nat_lt k 10 then 4 else if nat_lt k 100 then 5 else 6) + length more
count_length symbol k more = elim (cases_Bool (nat_lt k 10)) [
  | inl ten ↦
      ap (λ l. length (symbol ∷ left_parenthesis ∷ l)) (then_taken (nat_lt k 10) ((48 + k) ∷ right_parenthesis ∷ more) _ ten)
      ∙ (let four : length (symbol ∷ left_parenthesis ∷ (48 + k) ∷ right_parenthesis ∷ more) ≡ 4 + length more = omega arith in four)
      ∙ ap (λ n. n + length more) (sym (then_taken (nat_lt k 10) 4 (if nat_lt k 100 then 5 else 6) ten))
  | inr more_digits ↦ elim (cases_Bool (nat_lt k 100)) [
    | inl hundred ↦
        ap (λ l. length (symbol ∷ left_parenthesis ∷ l)) (else_taken (nat_lt k 10) ((48 + k) ∷ right_parenthesis ∷ more) _ more_digits ∙ then_taken (nat_lt k 100) ((48 + k / 10) ∷ (48 + k % 10) ∷ right_parenthesis ∷ more) _ hundred)
        ∙ (let five : length (symbol ∷ left_parenthesis ∷ (48 + k / 10) ∷ (48 + k % 10) ∷ right_parenthesis ∷ more) ≡ 5 + length more = omega arith in five)
        ∙ ap (λ n. n + length more) (sym (else_taken (nat_lt k 10) 4 (if nat_lt k 100 then 5 else 6) more_digits ∙ then_taken (nat_lt k 100) 5 6 hundred))
    | inr three ↦
        ap (λ l. length (symbol ∷ left_parenthesis ∷ l)) (else_taken (nat_lt k 10) ((48 + k) ∷ right_parenthesis ∷ more) _ more_digits ∙ else_taken (nat_lt k 100) ((48 + k / 10) ∷ (48 + k % 10) ∷ right_parenthesis ∷ more) _ three)
        ∙ (let six : length (symbol ∷ left_parenthesis ∷ (48 + k / 10 / 10) ∷ (48 + k / 10 % 10) ∷ (48 + k % 10) ∷ right_parenthesis ∷ more) ≡ 6 + length more = omega arith in six)
        ∙ ap (λ n. n + length more) (sym (else_taken (nat_lt k 10) 4 (if nat_lt k 100 then 5 else 6) more_digits ∙ else_taken (nat_lt k 100) 5 6 three))
  ]
]

run_length : (symbol k : ℕ) (more : List ℕ) → length (run_text symbol (suc k) more) ≡ run_size (suc k) + length more
run_length symbol zero more = omega arith
run_length symbol (suc k) more =
    ap length (else_taken (suc (suc k) == 1) (symbol ∷ more) (symbol ∷ left_parenthesis ∷ count_text (suc (suc k)) (right_parenthesis ∷ more)) (ne_eqb (suc (suc k)) 1 (λ z. omega (arith, z))))
    ∙ count_length symbol (suc (suc k)) more
    ∙ ap (λ n. n + length more) (sym (else_taken (nat_le (suc (suc k)) 1) (suc (suc k)) _ (lt-leb (suc (suc k)) 1 (omega arith))))

-- ---- the end

end_printed : (last : ℕ) (reading : Reading) → end_fault last reading ≡ None → tally reading.extent.printed (run_size reading.extent.run) ≤ 50
unfolding end_fault
end_printed last reading h =
    let good = end_good (is_counting reading.place) (is_whole reading.shape) (nat_le (digits reading.shape) 18) (is_short reading.extent && reading.extent.edits && ends_well reading.extent) _ _ _ h in
    let short = (and_parts (is_short reading.extent) reading.extent.edits (and_parts (is_short reading.extent && reading.extent.edits) (ends_well reading.extent) good).0).0 in
    leb-true (tally reading.extent.printed (run_size reading.extent.run)) 50 (and_parts (nat_le reading.extent.size 160) (nat_le (tally reading.extent.printed (run_size reading.extent.run)) 50) short).1

no_more : (count more rest : ℕ) → tally count more + rest ≤ 50 → count + (more + rest) ≤ 50
no_more count more rest h = grind arith

one_run : (k : ℕ) → k < 200 → tally k 1 ≡ k + 1
one_run k h = grind arith

-- ---- one symbol more

longer_same : (byte : ℕ) (extent : Extent) → extent.last ≡ byte → longer byte extent ≡ record extent { size = tally extent.size 1; run = tally extent.run 1 }
longer_same byte extent e = then_taken (extent.last == byte) (record extent { size = tally extent.size 1; run = tally extent.run 1 }) _ (eq-eqb extent.last byte e)

longer_other : (byte : ℕ) (extent : Extent) → (extent.last == byte) ≡ false → (longer byte extent).printed ≡ tally extent.printed (run_size extent.run)
longer_other byte extent e = ap (λ (x : Extent). x.printed) (else_taken (extent.last == byte) (record extent { size = tally extent.size 1; run = tally extent.run 1 }) _ e)

other_run : (byte : ℕ) (extent : Extent) → (extent.last == byte) ≡ false → (longer byte extent).run ≡ 1
other_run byte extent e = ap (λ (x : Extent). x.run) (else_taken (extent.last == byte) (record extent { size = tally extent.size 1; run = tally extent.run 1 }) _ e)

-- ---- all runs

short_runs : (rest : List ℕ) (n k symbol : ℕ) (shape : Shape) (extent : Extent) (place : SymbolPlace) → is_counting place ≡ false → map to_ascii_uppercase rest ≡ rest → is_written_out rest ≡ true → extent.last ≡ symbol → extent.run ≡ suc k → suc k + length rest < 200 → fault_from n (Ok (at shape extent place)) rest ≡ None → extent.printed + length (printed_from symbol (suc k) rest) ≤ 50
unfolding fault_from printed_from
short_runs [] n k symbol shape extent place counts upper plain is_last is_run short h =
    let ends = end_printed (last_position n) (at shape extent place) h in
    let size : run_size extent.run ≡ run_size (suc k) = ap run_size is_run in
    let all : tally extent.printed (run_size (suc k)) + 0 ≤ 50 = subst (λ s. tally extent.printed s + 0 ≤ 50) size (omega (arith, ends)) in
    omega (arith, run_length symbol k [], no_more extent.printed (run_size (suc k)) 0 all)
short_runs (byte ∷ rest) n k symbol shape extent place counts upper plain is_last is_run short h =
    let parts = and_parts (not (is_parenthesis byte)) (is_written_out rest) plain in
    let no_parenthesis : is_parenthesis byte ≡ false = not-true (is_parenthesis byte) parts.0 in
    let shorter : suc k + suc (length rest) < 200 = short in
    let on = goes_on_symbol (n + 1) byte (at shape extent place) rest counts (not_left byte no_parenthesis)
    (subst (λ b. fault_from (n + 1) (step (n + 1) b (at shape extent place)) rest ≡ None) (capital_first byte rest upper) h) in
    either_way (λ (l : List ℕ). extent.printed + length l ≤ 50) (symbol == byte) _ _
    (λ same.
    let is : symbol ≡ byte = eqb-true symbol byte same in
    let next = longer_same byte extent (is_last ∙ is) in
    let run_on : (longer byte extent).run ≡ suc (suc k) = ap (λ (x : Extent). x.run) next ∙ ap (λ r. tally r 1) is_run ∙ one_run (suc k) (omega arith) ∙ add-one (suc k) in
    let rest_on = short_runs rest (n + 1) (suc k) symbol on.shape (longer byte extent) on.place on.counts (capital_rest byte rest upper) parts.1 (longer_last byte extent ∙ sym is) run_on (omega arith) on.fault in
    let printed_on : (longer byte extent).printed ≡ extent.printed = ap (λ (x : Extent). x.printed) next in
    subst (λ r. extent.printed + length (printed_from symbol r rest) ≤ 50) (sym (add-one (suc k)))
    (subst (λ p. p + length (printed_from symbol (suc (suc k)) rest) ≤ 50) printed_on rest_on))
    (λ other.
    let apart : (extent.last == byte) ≡ false = ap (λ l. l == byte) is_last ∙ other in
    let rest_on = short_runs rest (n + 1) 0 byte on.shape (longer byte extent) on.place on.counts (capital_rest byte rest upper) parts.1 (longer_last byte extent) (other_run byte extent apart) (omega arith) on.fault in
    let printed_on : (longer byte extent).printed ≡ tally extent.printed (run_size (suc k)) = longer_other byte extent apart ∙ ap (λ r. tally extent.printed (run_size r)) is_run in
    let all : tally extent.printed (run_size (suc k)) + length (printed_from byte 1 rest) ≤ 50 = subst (λ p. p + length (printed_from byte 1 rest) ≤ 50) printed_on rest_on in
    omega (arith, run_length symbol k (printed_from byte 1 rest), no_more extent.printed (run_size (suc k)) (length (printed_from byte 1 rest)) all))

-- ---- the law

zero_none : (shape : Shape) → behind 0 shape ≡ None
unfolding behind
zero_none shape = refl

-- no mask begins with a byte 0
null_none : (byte : ℕ) (next : Shape) → 0 ≡ byte → behind byte empty ≡ Some next → ⊥
null_none byte next e f = none_some (behind 0 empty) next (zero_none empty) (ap (λ b. behind b empty) e ∙ f)

pub printed_masks_are_short : PrintedMasksAreShort
unfolding fault_from
printed_masks_are_short [] is upper = omega arith
printed_masks_are_short (byte ∷ rest) is upper =
    let parts = and_parts (not (is_parenthesis byte)) (is_written_out rest) is.written_out in
    let no_parenthesis : is_parenthesis byte ≡ false = not-true (is_parenthesis byte) parts.0 in
    let fits : 0 + suc (length rest) ≤ 160 = mask_short (byte ∷ rest) 0 empty no_extent places.Open refl upper is.written_out is.no_fault in
    let on = goes_on_symbol 1 byte start rest refl (not_left byte no_parenthesis)
    (subst (λ b. fault_from 1 (step 1 b start) rest ≡ None) (capital_first byte rest upper) is.no_fault) in
    elim (cases_Bool (0 == byte)) [
      | inl null ↦ absurd (null_none byte on.shape (eqb-true 0 byte null) on.comes)
      | inr other ↦
          let short = short_runs rest 1 0 byte on.shape (longer byte no_extent) on.place on.counts (capital_rest byte rest upper) parts.1 (longer_last byte no_extent) (other_run byte no_extent other) (omega arith) on.fault in
          omega (arith, short)
    ]
