-- What is printed of a mask is read as that mask.
use Rattle.std.proofs.Common.{◌≡◌, ℕ, zero, suc, ◌+◌, ◌-◌, ◌*◌, ◌/◌, ◌%◌, ◌<◌, ◌≤◌, Bool, true, false, not, ◌==◌, ◌&&◌, ◌||◌, if◌then◌else◌, List, [], ◌∷◌, ◌++◌, length, map, replicate, Ok, Err, Some, None, IfSome, inl, inr, refl, sym, ap, ◌∙◌, subst, arith, add-one, nat_le, nat_lt}
use Rattle.std.proofs.Math.Nat.{min-eq_left}
use Rattle.std.proofs.lemmas.Bool.{and_parts, cases_Bool, eqb-true, leb-true, ltb-true, ne_eqb, not-true}
use Rattle.std.proofs.lemmas.Bool.Decides.{nat_tests}
use Rattle.std.specs.Char.{to_ascii_uppercase}
use Rattle.edit_fields.specs.declared.fault.MaskFault.{MaskFault}
use Rattle.edit_fields.specs.declared.fault.MaskFault.TheVariants as faults
use Rattle.edit_fields.specs.declared.shape.Stage.{Stage}
use Rattle.edit_fields.specs.declared.shape.Stage.TheVariants as stages
use Rattle.edit_fields.specs.declared.shape.Shape.{Shape}
use Rattle.edit_fields.specs.declared.extent.Extent.{Extent}
use Rattle.edit_fields.specs.declared.reading.SymbolPlace.{SymbolPlace}
use Rattle.edit_fields.specs.declared.reading.SymbolPlace.TheVariants as places
use Rattle.edit_fields.specs.declared.reading.Reading.{Reading}
use Rattle.edit_fields.specs.Symbol.{symbol_v}
use Rattle.edit_fields.specs.Shape.{behind, body_by, digits, empty, is_whole, tally}
use Rattle.edit_fields.specs.Extent.{ends_well, is_short, longer, no_extent, run_size}
use Rattle.edit_fields.specs.Reading.{added_by, counted, end_fault, fault_from, in_count, is_counting, is_digit, is_parenthesis, is_written_out, last_position, left_parenthesis, mask_fault_of, placed, repeated, repeated_on, right_parenthesis, start, step, written_from}
use Rattle.edit_fields.specs.Laws.{PrintedMasksAreRead, count_text, printed_from, run_text}
use Rattle.edit_fields.proofs.BranchLemmas.{either_way, then_taken, else_taken, some_of}
use Rattle.edit_fields.proofs.MaskLemmas.{goes_on_symbol, not_counting}
use Rattle.edit_fields.proofs.MasksAreWrittenOut.{Capital, at, added_through, longer_last, none_some, not_left, same_end, takes}

-- ---- one digit of a count

digit_stays : (d : ℕ) → d ≤ 9 → to_ascii_uppercase (48 + d) ≡ 48 + d
digit_stays d h = grind (arith, nat_tests)

digit_is : (d : ℕ) → d ≤ 9 → is_digit (48 + d) ≡ true
digit_is d h = grind (arith, nat_tests)

value_is : (d : ℕ) → (48 + d) - 48 ≡ d
value_is d = omega arith

digit_step : (n position count d : ℕ) (shape : Shape) (extent : Extent) → d ≤ 9 → step n (to_ascii_uppercase (48 + d)) (at shape extent (places.Count position count)) ≡ Ok (at shape extent (places.Count position (counted count d)))
unfolding step
digit_step n position count d shape extent h =
    ap (λ b. in_count n position count b (at shape extent (places.Count position count))) (digit_stays d h)
    ∙ then_taken (is_digit (48 + d)) (Ok (at shape extent (places.Count position (counted count ((48 + d) - 48))))) _ (digit_is d h)
    ∙ ap (λ v. Ok (at shape extent (places.Count position (counted count v)))) (value_is d)

read_digit : (n position count d : ℕ) (shape : Shape) (extent : Extent) (more : List ℕ) → d ≤ 9 → fault_from (n + 1) (Ok (at shape extent (places.Count position (counted count d)))) more ≡ None → fault_from n (Ok (at shape extent (places.Count position count))) ((48 + d) ∷ more) ≡ None
unfolding fault_from
read_digit n position count d shape extent more h fault = ap (λ made. fault_from (n + 1) made more) (digit_step (n + 1) position count d shape extent h) ∙ fault

write_digit : (count last d : ℕ) (more : List ℕ) → d ≤ 9 → written_from (Some count) last ((48 + d) ∷ more) ≡ written_from (Some (counted count d)) last more
unfolding written_from
write_digit count last d more h =
    ap (λ b. if is_digit b then written_from (Some (counted count (b - 48))) last more else replicate (count - 1) last ++ written_from None last more) (digit_stays d h)
    ∙ then_taken (is_digit (48 + d)) (written_from (Some (counted count ((48 + d) - 48))) last more) _ (digit_is d h)
    ∙ ap (λ v. written_from (Some (counted count v)) last more) (value_is d)

-- ---- a count

counted_is : (count d : ℕ) → count * 10 + d ≤ 200 → counted count d ≡ count * 10 + d
counted_is count d h = min-eq_left h

-- one, two or three digits are a count
one_digit : (k : ℕ) → k < 10 → counted 0 k ≡ k
one_digit k h = counted_is 0 k (omega arith) ∙ omega arith

two_digits : (k : ℕ) → k < 100 → counted (counted 0 (k / 10)) (k % 10) ≡ k
two_digits k h =
    ap (λ c. counted c (k % 10)) (one_digit (k / 10) (omega arith))
    ∙ counted_is (k / 10) (k % 10) (omega arith) ∙ omega arith

three_digits : (k : ℕ) → k < 200 → counted (counted (counted 0 (k / 10 / 10)) (k / 10 % 10)) (k % 10) ≡ k
three_digits k h =
    ap (λ c. counted c (k % 10)) (two_digits (k / 10) (omega arith))
    ∙ counted_is (k / 10) (k % 10) (omega arith) ∙ omega arith

read_count : (n position k : ℕ) (shape : Shape) (extent : Extent) (more : List ℕ) → k < 200 → ((m : ℕ) → fault_from m (Ok (at shape extent (places.Count position k))) more ≡ None) → fault_from n (Ok (at shape extent (places.Count position 0))) (count_text k more) ≡ None
read_count n position k shape extent more h go =
    let reads : ℕ → List ℕ → Type 0 = λ (m : ℕ) (l : List ℕ). fault_from m (Ok (at shape extent (places.Count position 0))) l ≡ None in
    let to_count : (m c : ℕ) → c ≡ k → fault_from m (Ok (at shape extent (places.Count position c))) more ≡ None = λ (m c : ℕ) e. subst (λ x. fault_from m (Ok (at shape extent (places.Count position x))) more ≡ None) (sym e) (go m) in
    either_way (reads n) (nat_lt k 10) _ _
    (λ ten. let small : k < 10 = ltb-true k 10 ten in read_digit n position 0 k shape extent more (omega arith) (to_count (n + 1) _ (one_digit k small)))
    (λ _. either_way (reads n) (nat_lt k 100) _ _
    (λ hundred. let small : k < 100 = ltb-true k 100 hundred in
    read_digit n position 0 (k / 10) shape extent ((48 + k % 10) ∷ more) (omega arith)
    (read_digit (n + 1) position (counted 0 (k / 10)) (k % 10) shape extent more (omega arith) (to_count (n + 1 + 1) _ (two_digits k small))))
    (λ _. read_digit n position 0 (k / 10 / 10) shape extent ((48 + k / 10 % 10) ∷ (48 + k % 10) ∷ more) (omega arith)
    (read_digit (n + 1) position (counted 0 (k / 10 / 10)) (k / 10 % 10) shape extent ((48 + k % 10) ∷ more) (omega arith)
    (read_digit (n + 1 + 1) position (counted (counted 0 (k / 10 / 10)) (k / 10 % 10)) (k % 10) shape extent more (omega arith) (to_count (n + 1 + 1 + 1) _ (three_digits k h))))))

write_count : (k last : ℕ) (more : List ℕ) → k < 200 → written_from (Some 0) last (count_text k more) ≡ written_from (Some k) last more
write_count k last more h =
    either_way (λ (l : List ℕ). written_from (Some 0) last l ≡ written_from (Some k) last more) (nat_lt k 10) _ _
    (λ ten. let small : k < 10 = ltb-true k 10 ten in write_digit 0 last k more (omega arith) ∙ ap (λ c. written_from (Some c) last more) (one_digit k small))
    (λ _. either_way (λ (l : List ℕ). written_from (Some 0) last l ≡ written_from (Some k) last more) (nat_lt k 100) _ _
    (λ hundred. let small : k < 100 = ltb-true k 100 hundred in
    write_digit 0 last (k / 10) ((48 + k % 10) ∷ more) (omega arith)
    ∙ write_digit (counted 0 (k / 10)) last (k % 10) more (omega arith) ∙ ap (λ c. written_from (Some c) last more) (two_digits k small))
    (λ _. write_digit 0 last (k / 10 / 10) ((48 + k / 10 % 10) ∷ (48 + k % 10) ∷ more) (omega arith)
    ∙ write_digit (counted 0 (k / 10 / 10)) last (k / 10 % 10) ((48 + k % 10) ∷ more) (omega arith)
    ∙ write_digit (counted (counted 0 (k / 10 / 10)) (k / 10 % 10)) last (k % 10) more (omega arith)
    ∙ ap (λ c. written_from (Some c) last more) (three_digits k h)))

-- ---- a run

-- no V stands behind another
pointed : (stage : Stage) (shape : Shape) → IfSome (body_by stage (record shape { point = true })) (λ next. next.point ≡ true)
pointed stages.Start shape = refl
pointed (stages.Lead lead) shape = refl
pointed stages.Body shape = refl
pointed (stages.Led lead) shape = refl
pointed (stages.Once first) shape = refl
pointed stages.InString shape = refl
pointed stages.Nines shape = refl
pointed (stages.Letter letter) shape = tt
pointed stages.Ended shape = tt

v_points : (shape : Shape) → IfSome (behind 86 shape) (λ next. next.point ≡ true)
unfolding behind
v_points shape = either_way (λ o. IfSome o (λ (next : Shape). next.point ≡ true)) shape.point _ _ (λ _. tt) (λ _. pointed shape.stage shape)

v_once : (shape : Shape) → shape.point ≡ true → behind 86 shape ≡ None
unfolding behind
v_once shape point = then_taken shape.point None (body_by shape.stage (record shape { point = true })) point

-- a symbol that comes twice is no V
twice_no_v : (symbol : ℕ) (shape next after : Shape) → behind symbol shape ≡ Some next → behind symbol next ≡ Some after → (symbol == symbol_v) ≡ false
twice_no_v symbol shape next after e f = elim (cases_Bool (symbol == symbol_v)) [
  | inl v ↦
      let is : symbol ≡ 86 = eqb-true symbol 86 v in
      let point : next.point ≡ true = some_of (λ (s : Shape). s.point ≡ true) (behind 86 shape) next (ap (λ b. behind b shape) (sym is) ∙ e) (v_points shape) in
      absurd (none_some (behind 86 next) after (v_once next point) (ap (λ b. behind b next) (sym is) ∙ f))
  | inr other ↦ other
]

close_step : (n position k : ℕ) (shape : Shape) (extent : Extent) (after : Reading) → 1 ≤ k → repeated (k - 1) extent.last (at shape extent (places.Count position k)) ≡ Some after → step n (to_ascii_uppercase 41) (at shape extent (places.Count position k)) ≡ Ok (at after.shape after.extent places.Open)
unfolding step
close_step n position k shape extent after some e =
    else_taken (k == 0) (Err (faults.Order n)) (placed (faults.Order position) places.Open (repeated (k - 1) extent.last (at shape extent (places.Count position k)))) (ne_eqb k 0 (λ z. omega (arith, z, some)))
    ∙ ap (λ o. placed (faults.Order position) places.Open o) e

-- where a run is repeated, its place doesn't matter
moved_place : (k symbol : ℕ) (shape : Shape) (extent : Extent) (place other : SymbolPlace) (after : Reading) → repeated_on k symbol (Some (at shape extent place)) ≡ Some after → repeated_on k symbol (Some (at shape extent other)) ≡ Some (at after.shape after.extent other)
moved_place zero symbol shape extent place other after e = let same : at shape extent place ≡ after = cc in ap (λ (r : Reading). Some (at r.shape r.extent other)) same
moved_place (suc k) symbol shape extent place other after e =
    added_through k symbol (at shape extent place) after (behind symbol shape) (repeated_on (suc k) symbol (Some (at shape extent other)) ≡ Some (at after.shape after.extent other)) refl e
    (λ next f g. ap (λ may. repeated_on k symbol (added_by symbol may (at shape extent other))) f ∙ moved_place k symbol next (longer symbol extent) place other after g)

-- the symbol once more at the end
repeated_more : (k symbol : ℕ) (reading after : Reading) (next : Shape) → repeated_on k symbol (Some reading) ≡ Some after → behind symbol after.shape ≡ Some next → repeated_on (suc k) symbol (Some reading) ≡ Some (at next (longer symbol after.extent) after.place)
repeated_more zero symbol reading after next e f =
    let same : reading ≡ after = cc in
    ap (λ (r : Reading). added_by symbol (behind symbol r.shape) r) same ∙ ap (λ may. added_by symbol may after) f
repeated_more (suc k) symbol reading after next e f =
    added_through k symbol reading after (behind symbol reading.shape) (repeated_on (suc (suc k)) symbol (Some reading) ≡ Some (at next (longer symbol after.extent) after.place)) refl e
    (λ on g h. ap (λ may. repeated_on (suc k) symbol (added_by symbol may reading)) g ∙ repeated_more k symbol (at on (longer symbol reading.extent) reading.place) after next h f)

-- a run that is printed is read as the run
read_one : (n symbol : ℕ) (shape : Shape) (extent : Extent) (place : SymbolPlace) (after : Reading) (more : List ℕ) → is_counting place ≡ false → Capital symbol → repeated_on 1 symbol (Some (at shape extent place)) ≡ Some after → ((m : ℕ) (place : SymbolPlace) → is_counting place ≡ false → fault_from m (Ok (at after.shape after.extent place)) more ≡ None) → fault_from n (Ok (at shape extent place)) (symbol ∷ more) ≡ None
unfolding fault_from
read_one n symbol shape extent place after more counts capital e go =
    added_through 0 symbol (at shape extent place) after (behind symbol shape) (fault_from n (Ok (at shape extent place)) (symbol ∷ more) ≡ None) refl e
    (λ next f g.
    let same : at next (longer symbol extent) place ≡ after = cc in
    ap (λ made. fault_from (n + 1) made more) (takes (n + 1) symbol shape next extent place counts capital f)
    ∙ ap (λ (r : Reading). fault_from (n + 1) (Ok (at r.shape r.extent (if symbol == symbol_v then places.Open else places.Behind (n + 1)))) more) same
    ∙ go (n + 1) (if symbol == symbol_v then places.Open else places.Behind (n + 1)) (not_counting (symbol == symbol_v) (n + 1)))

read_more : (n k symbol : ℕ) (shape : Shape) (extent : Extent) (place : SymbolPlace) (after : Reading) (more : List ℕ) → is_counting place ≡ false → Capital symbol → suc (suc k) < 200 → repeated_on (suc (suc k)) symbol (Some (at shape extent place)) ≡ Some after → ((m : ℕ) (place : SymbolPlace) → is_counting place ≡ false → fault_from m (Ok (at after.shape after.extent place)) more ≡ None) → fault_from n (Ok (at shape extent place)) (symbol ∷ left_parenthesis ∷ count_text (suc (suc k)) (right_parenthesis ∷ more)) ≡ None
unfolding fault_from step
read_more n k symbol shape extent place after more counts capital short e go =
    added_through (suc k) symbol (at shape extent place) after (behind symbol shape) (fault_from n (Ok (at shape extent place)) (symbol ∷ left_parenthesis ∷ count_text (suc (suc k)) (right_parenthesis ∷ more)) ≡ None) refl e
    (λ next f g. added_through k symbol (at next (longer symbol extent) place) after (behind symbol next) (fault_from n (Ok (at shape extent place)) (symbol ∷ left_parenthesis ∷ count_text (suc (suc k)) (right_parenthesis ∷ more)) ≡ None) refl g
    (λ second h i.
    let other : (symbol == symbol_v) ≡ false = twice_no_v symbol shape next second f h in
    let last_is : (longer symbol extent).last ≡ symbol = longer_last symbol extent in
    let run : (p : ℕ) → repeated ((suc (suc k)) - 1) (longer symbol extent).last (at next (longer symbol extent) (places.Count p (suc (suc k)))) ≡ Some (at after.shape after.extent (places.Count p (suc (suc k)))) =
    λ (p : ℕ). ap (λ s. repeated ((suc (suc k)) - 1) s (at next (longer symbol extent) (places.Count p (suc (suc k))))) last_is
    ∙ (let less : (suc (suc k)) - 1 ≡ suc k = omega arith in ap (λ j. repeated j symbol (at next (longer symbol extent) (places.Count p (suc (suc k))))) less)
    ∙ moved_place (suc k) symbol next (longer symbol extent) place (places.Count p (suc (suc k))) after g in
    ap (λ made. fault_from (n + 1) made (left_parenthesis ∷ count_text (suc (suc k)) (right_parenthesis ∷ more))) (takes (n + 1) symbol shape next extent place counts capital f)
    ∙ ap (λ p. fault_from (n + 1) (Ok (at next (longer symbol extent) p)) (left_parenthesis ∷ count_text (suc (suc k)) (right_parenthesis ∷ more))) (else_taken (symbol == symbol_v) places.Open (places.Behind (n + 1)) other)
    ∙ read_count (n + 1 + 1) (n + 1) (suc (suc k)) next (longer symbol extent) (right_parenthesis ∷ more) short
    (λ (m : ℕ). ap (λ made. fault_from (m + 1) made more) (close_step (m + 1) (n + 1) (suc (suc k)) next (longer symbol extent) (at after.shape after.extent (places.Count (n + 1) (suc (suc k)))) (omega arith) (run (n + 1)))
    ∙ go (m + 1) places.Open refl)))

read_run : (n k symbol : ℕ) (shape : Shape) (extent : Extent) (place : SymbolPlace) (after : Reading) (more : List ℕ) → is_counting place ≡ false → Capital symbol → suc k < 200 → repeated_on (suc k) symbol (Some (at shape extent place)) ≡ Some after → ((m : ℕ) (place : SymbolPlace) → is_counting place ≡ false → fault_from m (Ok (at after.shape after.extent place)) more ≡ None) → fault_from n (Ok (at shape extent place)) (run_text symbol (suc k) more) ≡ None
read_run n zero symbol shape extent place after more counts capital short e go = read_one n symbol shape extent place after more counts capital e go
read_run n (suc k) symbol shape extent place after more counts capital short e go =
    ap (λ l. fault_from n (Ok (at shape extent place)) l) (else_taken (suc (suc k) == 1) (symbol ∷ more) (symbol ∷ left_parenthesis ∷ count_text (suc (suc k)) (right_parenthesis ∷ more)) (ne_eqb (suc (suc k)) 1 (λ z. omega (arith, z))))
    ∙ read_more n k symbol shape extent place after more counts capital short e go

write_run : (k last symbol : ℕ) (more : List ℕ) → Capital symbol → suc k < 200 → written_from None last (run_text symbol (suc k) more) ≡ replicate (suc k) symbol ++ written_from None symbol more
unfolding written_from
write_run zero last symbol more capital short =
    ap (λ b. if b == left_parenthesis then written_from (Some 0) last more else b ∷ written_from None b more) capital.upper
    ∙ else_taken (symbol == left_parenthesis) (written_from (Some 0) last more) (symbol ∷ written_from None symbol more) (not_left symbol capital.plain)
write_run (suc k) last symbol more capital short =
    let counts : List ℕ = count_text (suc (suc k)) (right_parenthesis ∷ more) in
    ap (λ l. written_from None last l) (else_taken (suc (suc k) == 1) (symbol ∷ more) (symbol ∷ left_parenthesis ∷ counts) (ne_eqb (suc (suc k)) 1 (λ z. omega (arith, z))))
    ∙ ap (λ b. if b == left_parenthesis then written_from (Some 0) last (left_parenthesis ∷ counts) else b ∷ written_from None b (left_parenthesis ∷ counts)) capital.upper
    ∙ else_taken (symbol == left_parenthesis) (written_from (Some 0) last (left_parenthesis ∷ counts)) (symbol ∷ written_from None symbol (left_parenthesis ∷ counts)) (not_left symbol capital.plain)
    ∙ ap (λ l. symbol ∷ l) (write_count (suc (suc k)) symbol (right_parenthesis ∷ more) short)
    ∙ (let less : suc (suc k) - 1 ≡ suc k = omega arith in ap (λ j. symbol ∷ (replicate j symbol ++ written_from None symbol more)) less)

-- ---- all runs

-- each byte is in capitals, and no parenthesis
pub capital_first : (byte : ℕ) (rest : List ℕ) → map to_ascii_uppercase (byte ∷ rest) ≡ byte ∷ rest → to_ascii_uppercase byte ≡ byte
capital_first byte rest e = cc

pub capital_rest : (byte : ℕ) (rest : List ℕ) → map to_ascii_uppercase (byte ∷ rest) ≡ byte ∷ rest → map to_ascii_uppercase rest ≡ rest
capital_rest byte rest e = cc

replicate_end : (k symbol : ℕ) (rest : List ℕ) → replicate (suc k) symbol ++ rest ≡ replicate k symbol ++ symbol ∷ rest
replicate_end zero symbol rest = refl
replicate_end (suc k) symbol rest = ap (λ l. symbol ∷ l) (replicate_end k symbol rest)

written_nothing : (l : List ℕ) (symbol : ℕ) → l ++ written_from None symbol [] ≡ l ++ []
unfolding written_from
written_nothing l symbol = refl

write_runs : (rest : List ℕ) (k last symbol : ℕ) → Capital symbol → map to_ascii_uppercase rest ≡ rest → is_written_out rest ≡ true → suc k + length rest < 200 → written_from None last (printed_from symbol (suc k) rest) ≡ replicate (suc k) symbol ++ rest
unfolding printed_from
write_runs [] k last symbol capital upper plain short = write_run k last symbol [] capital (omega arith) ∙ written_nothing (replicate (suc k) symbol) symbol
write_runs (byte ∷ rest) k last symbol capital upper plain short =
    let parts = and_parts (not (is_parenthesis byte)) (is_written_out rest) plain in
    let shorter : suc k + suc (length rest) < 200 = short in
    let capital_byte : Capital byte = record { upper = capital_first byte rest upper; plain = not-true (is_parenthesis byte) parts.0 } in
    either_way (λ (l : List ℕ). written_from None last l ≡ replicate (suc k) symbol ++ byte ∷ rest) (symbol == byte) _ _
    (λ same.
    let is : symbol ≡ byte = eqb-true symbol byte same in
    ap (λ r. written_from None last (printed_from symbol r rest)) (add-one (suc k))
    ∙ write_runs rest (suc k) last symbol capital (capital_rest byte rest upper) parts.1 (omega arith)
    ∙ replicate_end (suc k) symbol rest ∙ ap (λ b. replicate (suc k) symbol ++ b ∷ rest) is)
    (λ _. write_run k last symbol (printed_from byte 1 rest) capital (omega arith)
    ∙ ap (λ l. replicate (suc k) symbol ++ l) (write_runs rest 0 symbol byte capital_byte (capital_rest byte rest upper) parts.1 (omega arith)))

-- ---- a mask is short

pub end_good : (counting whole few good : Bool) (x y z : MaskFault) → (if counting || not whole then Some x else (if not few then Some y else (if good then None else Some z))) ≡ None → good ≡ true
end_good true whole few good x y z h = absurd cc
end_good false true true true x y z h = refl
end_good false true true false x y z h = absurd cc
end_good false true false good x y z h = absurd cc
end_good false false few good x y z h = absurd cc

end_short : (last : ℕ) (reading : Reading) → end_fault last reading ≡ None → reading.extent.size ≤ 160
unfolding end_fault
end_short last reading h =
    let good = end_good (is_counting reading.place) (is_whole reading.shape) (nat_le (digits reading.shape) 18) (is_short reading.extent && reading.extent.edits && ends_well reading.extent) _ _ _ h in
    let short = (and_parts (is_short reading.extent) reading.extent.edits (and_parts (is_short reading.extent && reading.extent.edits) (ends_well reading.extent) good).0).0 in
    leb-true reading.extent.size 160 (and_parts (nat_le reading.extent.size 160) (nat_le (tally reading.extent.printed (run_size reading.extent.run)) 50) short).0

longer_size : (byte : ℕ) (extent : Extent) → (longer byte extent).size ≡ tally extent.size 1
longer_size byte extent = either_way (λ (e : Extent). e.size ≡ tally extent.size 1) (extent.last == byte) _ _ (λ _. refl) (λ _. refl)

one_less : (size more : ℕ) → tally size 1 + more ≤ 160 → size + suc more ≤ 160
one_less size more h = grind arith

pub mask_short : (text : List ℕ) (n : ℕ) (shape : Shape) (extent : Extent) (place : SymbolPlace) → is_counting place ≡ false → map to_ascii_uppercase text ≡ text → is_written_out text ≡ true → fault_from n (Ok (at shape extent place)) text ≡ None → extent.size + length text ≤ 160
unfolding fault_from
mask_short [] n shape extent place counts upper plain h = omega (arith, end_short (last_position n) (at shape extent place) h)
mask_short (byte ∷ rest) n shape extent place counts upper plain h =
    let parts = and_parts (not (is_parenthesis byte)) (is_written_out rest) plain in
    let on = goes_on_symbol (n + 1) byte (at shape extent place) rest counts (not_left byte (not-true (is_parenthesis byte) parts.0))
    (subst (λ b. fault_from (n + 1) (step (n + 1) b (at shape extent place)) rest ≡ None) (capital_first byte rest upper) h) in
    let rest_short = mask_short rest (n + 1) on.shape (longer byte extent) on.place on.counts (capital_rest byte rest upper) parts.1 on.fault in
    one_less extent.size (length rest) (subst (λ s. s + length rest ≤ 160) (longer_size byte extent) rest_short)

-- ---- all runs are read

read_runs : (rest : List ℕ) (n m k symbol : ℕ) (shape : Shape) (extent : Extent) (place : SymbolPlace) (after : Reading) (other : SymbolPlace) → is_counting place ≡ false → is_counting other ≡ false → Capital symbol → map to_ascii_uppercase rest ≡ rest → is_written_out rest ≡ true → suc k + length rest < 200 → repeated_on (suc k) symbol (Some (at shape extent place)) ≡ Some after → fault_from m (Ok (at after.shape after.extent other)) rest ≡ None → fault_from n (Ok (at shape extent place)) (printed_from symbol (suc k) rest) ≡ None
unfolding fault_from printed_from
read_runs [] n m k symbol shape extent place after other counts open_other capital upper plain short e h =
    read_run n k symbol shape extent place after [] counts capital (omega arith) e
    (λ (j : ℕ) (p : SymbolPlace) open_place. same_end (last_position m) (last_position j) after.shape after.extent other p open_place h)
read_runs (byte ∷ rest) n m k symbol shape extent place after other counts open_other capital upper plain short e h =
    let parts = and_parts (not (is_parenthesis byte)) (is_written_out rest) plain in
    let no_parenthesis : is_parenthesis byte ≡ false = not-true (is_parenthesis byte) parts.0 in
    let shorter : suc k + suc (length rest) < 200 = short in
    let on = goes_on_symbol (m + 1) byte (at after.shape after.extent other) rest open_other (not_left byte no_parenthesis)
    (subst (λ b. fault_from (m + 1) (step (m + 1) b (at after.shape after.extent other)) rest ≡ None) (capital_first byte rest upper) h) in
    either_way (λ (l : List ℕ). fault_from n (Ok (at shape extent place)) l ≡ None) (symbol == byte) _ _
    (λ same.
    let is : symbol ≡ byte = eqb-true symbol byte same in
    ap (λ r. fault_from n (Ok (at shape extent place)) (printed_from symbol r rest)) (add-one (suc k))
    ∙ read_runs rest n (m + 1) (suc k) symbol shape extent place (at on.shape (longer symbol after.extent) after.place) on.place counts on.counts capital (capital_rest byte rest upper) parts.1 (omega arith)
    (repeated_more (suc k) symbol (at shape extent place) after on.shape e (ap (λ b. behind b after.shape) is ∙ on.comes))
    (ap (λ b. fault_from (m + 1) (Ok (at on.shape (longer b after.extent) on.place)) rest) is ∙ on.fault))
    (λ _. read_run n k symbol shape extent place after (printed_from byte 1 rest) counts capital (omega arith) e
    (λ (j : ℕ) (p : SymbolPlace) open_place.
    read_runs rest j (m + 1) 0 byte after.shape after.extent p (at on.shape (longer byte after.extent) p) on.place open_place on.counts
    (record { upper = capital_first byte rest upper; plain = no_parenthesis }) (capital_rest byte rest upper) parts.1 (omega arith)
    (ap (λ may. added_by byte may (at after.shape after.extent p)) on.comes) on.fault))

-- ---- the law

empty_no_mask : mask_fault_of [] ≡ None → ⊥
unfolding fault_from end_fault
empty_no_mask h = cc

pub printed_masks_are_read : PrintedMasksAreRead
unfolding fault_from
printed_masks_are_read [] is upper = absurd (empty_no_mask is.no_fault)
printed_masks_are_read (byte ∷ rest) is upper =
    let parts = and_parts (not (is_parenthesis byte)) (is_written_out rest) is.written_out in
    let no_parenthesis : is_parenthesis byte ≡ false = not-true (is_parenthesis byte) parts.0 in
    let capital : Capital byte = record { upper = capital_first byte rest upper; plain = no_parenthesis } in
    let fits : 0 + suc (length rest) ≤ 160 = mask_short (byte ∷ rest) 0 empty no_extent places.Open refl upper is.written_out is.no_fault in
    let on = goes_on_symbol 1 byte start rest refl (not_left byte no_parenthesis)
    (subst (λ b. fault_from 1 (step 1 b start) rest ≡ None) (capital_first byte rest upper) is.no_fault) in (
      read_runs rest 0 1 0 byte empty no_extent places.Open (at on.shape (longer byte no_extent) places.Open) on.place refl on.counts capital (capital_rest byte rest upper) parts.1 (omega arith)
          (ap (λ may. added_by byte may start) on.comes) on.fault,
      write_runs rest 0 0 byte capital (capital_rest byte rest upper) parts.1 (omega arith),
    )
