-- What is printed of a mask is taken as a mask, and read as that one.
use Rattle.std.proofs.Common.{◌≡◌, ℕ, suc, ◌+◌, ◌/◌, ◌%◌, ◌<◌, ◌≤◌, Bool, true, false, not, ◌==◌, ◌&&◌, ◌||◌, if◌then◌else◌, nat_le, nat_lt, List, [], ◌∷◌, length, map, Some, None, Ok, refl, ap, ◌∙◌, subst, arith}
use Rattle.std.specs.Char.{to_ascii_uppercase}
use Rattle.std.specs.List.{list_all, list_any}
use Rattle.std.proofs.lemmas.Bool.{and_parts, eqb-true, ltb-true, not-true}
use Rattle.std.proofs.lemmas.Bool.Decides.{nat_tests}
use Rattle.cob_tree.specs.declared.picture.Picture.TheVariants as pictures
use Rattle.edit_fields.specs.declared.extent.Extent.{Extent}
use Rattle.edit_fields.specs.declared.reading.Reading.{Reading}
use Rattle.edit_fields.specs.Symbol.{is_symbol, symbol_0}
use Rattle.edit_fields.specs.Shape.{digits, is_whole}
use Rattle.edit_fields.specs.Extent.{ends_well, is_edit, is_short, longer}
use Rattle.edit_fields.specs.Mask.{IsHeldMask, held_unless}
use Rattle.edit_fields.specs.Reading.{end_fault, fault_from, is_counting, is_parenthesis, is_written_out, last_position, left_parenthesis, right_parenthesis, start, step}
use Rattle.edit_fields.specs.Laws.{count_text, printed, printed_from, run_text}
use Rattle.edit_fields.proofs.BranchLemmas.{either_way}
use Rattle.edit_fields.proofs.MaskLemmas.{goes_on_symbol}
use Rattle.edit_fields.proofs.HeldMasks.{held_short}
use Rattle.edit_fields.proofs.MasksAreWrittenOut.{not_left}
use Rattle.edit_fields.proofs.PrintedMasksAreRead.{capital_first, capital_rest, end_good, printed_masks_are_read}
use Rattle.picture_data.specs.Edited.{counts_behind, edited_by, edited_picture, first_plain, is_edit_symbol, is_edited, is_edited_from, is_plain_symbol, picture_by}
use Rattle.picture_data.specs.Reading.{picture_of, plain_picture}
use Rattle.cobol_print.proofs.MaskLemmas.{is_byte, AreBytes, rest-bytes, comes-symbol}

-- ---- a mask has a symbol other than 9 and V

or-left : (a b : Bool) → a ≡ true → (a || b) ≡ true
or-left true b e = refl
or-left false b e = absurd cc

or-right : (a b : Bool) → b ≡ true → (a || b) ≡ true
or-right true b e = refl
or-right false b e = e

-- ---- the symbols by which a text is taken as a mask

abbrev marks : ℕ → Bool
marks byte = is_edit_symbol (to_ascii_uppercase byte) || (byte == symbol_0 && not false)

-- of a mask's symbols, all but 9 and V
edit-marks : (b : ℕ) → to_ascii_uppercase b ≡ b → is_symbol b ≡ true → is_edit b ≡ true → marks b ≡ true
edit-marks b upper is edit = ap (λ c. is_edit_symbol c || (b == symbol_0 && not false)) upper ∙ by b is edit
  where
    by : (b : ℕ) → is_symbol b ≡ true → is_edit b ≡ true → (is_edit_symbol b || (b == symbol_0 && not false)) ≡ true
    by b is edit = grind (arith, nat_tests)

-- one symbol more
marks-longer : (byte : ℕ) (extent : Extent) (rest : Bool) → (is_edit byte ≡ true → marks byte ≡ true) → ((longer byte extent).edits || rest) ≡ true → (extent.edits || (marks byte || rest)) ≡ true
marks-longer byte extent rest marked =
    either_way (λ (x : Extent). (x.edits || rest) ≡ true → (extent.edits || (marks byte || rest)) ≡ true) (extent.last == byte) _ _
    (λ _ e. same extent.edits e) (λ _ e. other extent.edits (is_edit byte) refl e)
  where
    same : (edits : Bool) → (edits || rest) ≡ true → (edits || (marks byte || rest)) ≡ true
    same true e = refl
    same false e = or-right (marks byte) rest e

    other : (edits edit : Bool) → is_edit byte ≡ edit → ((edits || edit) || rest) ≡ true → (edits || (marks byte || rest)) ≡ true
    other true edit f e = refl
    other false true f e = or-left (marks byte) rest (marked f)
    other false false f e = or-right (marks byte) rest e

end-edits : (last : ℕ) (reading : Reading) → end_fault last reading ≡ None → reading.extent.edits ≡ true
unfolding end_fault
end-edits last reading h =
    let good = end_good (is_counting reading.place) (is_whole reading.shape) (nat_le (digits reading.shape) 18) (is_short reading.extent && reading.extent.edits && ends_well reading.extent) _ _ _ h in
    (and_parts (is_short reading.extent) reading.extent.edits (and_parts (is_short reading.extent && reading.extent.edits) (ends_well reading.extent) good).0).1

rest-marks : (text : List ℕ) (n : ℕ) (reading : Reading) → is_counting reading.place ≡ false → map to_ascii_uppercase text ≡ text → is_written_out text ≡ true → fault_from n (Ok reading) text ≡ None →
    (reading.extent.edits || list_any marks text) ≡ true
unfolding fault_from
rest-marks [] n reading counts upper plain h = or-left reading.extent.edits false (end-edits (last_position n) reading h)
rest-marks (byte ∷ rest) n reading counts upper plain h =
    let parts = and_parts (not (is_parenthesis byte)) (is_written_out rest) plain in
    let on = goes_on_symbol (n + 1) byte reading rest counts (not_left byte (not-true (is_parenthesis byte) parts.0))
    (subst (λ b. fault_from (n + 1) (step (n + 1) b reading) rest ≡ None) (capital_first byte rest upper) h) in
    marks-longer byte reading.extent (list_any marks rest) (edit-marks byte (capital_first byte rest upper) (comes-symbol byte reading.shape on.shape on.comes))
    (rest-marks rest (n + 1) (record { shape = on.shape; extent = longer byte reading.extent; place = on.place }) on.counts (capital_rest byte rest upper) parts.1 on.fault)

mask-marks : (mask : List ℕ) → IsHeldMask mask → list_any marks mask ≡ true
mask-marks mask h = rest-marks mask 0 start refl h.capitals h.is_mask.written_out h.is_mask.no_fault

-- ---- what is printed has them too

marked-next : (counts : Bool) (byte : ℕ) (rest : List ℕ) →
    is_edited_from counts (byte ∷ rest) ≡ ((is_edit_symbol (to_ascii_uppercase byte) || (byte == symbol_0 && not counts)) || is_edited_from (counts_behind byte counts) rest)
unfolding is_edited_from
marked-next counts byte rest = refl

-- a symbol that is no parenthesis
marked-symbol : (symbol : ℕ) (more : List ℕ) → is_parenthesis symbol ≡ false → is_edited_from false (symbol ∷ more) ≡ (marks symbol || is_edited_from false more)
marked-symbol symbol more plain = marked-next false symbol more ∙ ap (λ c. marks symbol || is_edited_from c more) (no-count symbol plain)
  where
    no-count : (b : ℕ) → is_parenthesis b ≡ false → counts_behind b false ≡ false
    no-count b e = grind (arith, nat_tests)

-- a digit of a count says nothing
pub marked-digit : (d : ℕ) (more : List ℕ) → d ≤ 9 → is_edited_from true ((48 + d) ∷ more) ≡ is_edited_from true more
marked-digit d more h =
    marked-next true (48 + d) more
    ∙ ap (λ b. b || is_edited_from (counts_behind (48 + d) true) more) (silent d h)
    ∙ ap (λ c. is_edited_from c more) (goes-on d h)
  where
    silent : (d : ℕ) → d ≤ 9 → (is_edit_symbol (to_ascii_uppercase (48 + d)) || ((48 + d) == symbol_0 && not true)) ≡ false
    silent d h = grind (arith, nat_tests)

    goes-on : (d : ℕ) → d ≤ 9 → counts_behind (48 + d) true ≡ true
    goes-on d h = grind (arith, nat_tests)

marked-count : (k : ℕ) (more : List ℕ) → k < 1000 → is_edited_from true (count_text k more) ≡ is_edited_from true more
marked-count k more small =
    either_way (λ (l : List ℕ). is_edited_from true l ≡ is_edited_from true more) (nat_lt k 10) _ _
    (λ ten. let few = ltb-true k 10 ten in marked-digit k more (omega (arith, few)))
    (λ _. either_way (λ (l : List ℕ). is_edited_from true l ≡ is_edited_from true more) (nat_lt k 100) _ _
    (λ hundred. let few = ltb-true k 100 hundred in marked-digit (k / 10) ((48 + k % 10) ∷ more) (omega (arith, few)) ∙ marked-digit (k % 10) more (omega arith))
    (λ _. marked-digit (k / 10 / 10) ((48 + k / 10 % 10) ∷ (48 + k % 10) ∷ more) (omega (arith, small))
    ∙ marked-digit (k / 10 % 10) ((48 + k % 10) ∷ more) (omega arith) ∙ marked-digit (k % 10) more (omega arith)))

pub marked-open : (more : List ℕ) → is_edited_from false (left_parenthesis ∷ more) ≡ is_edited_from true more
unfolding is_edited_from
marked-open more = refl

pub marked-close : (more : List ℕ) → is_edited_from true (right_parenthesis ∷ more) ≡ is_edited_from false more
unfolding is_edited_from
marked-close more = refl

marked-run : (symbol run : ℕ) (more : List ℕ) → is_parenthesis symbol ≡ false → run < 1000 → is_edited_from false (run_text symbol run more) ≡ (marks symbol || is_edited_from false more)
marked-run symbol run more plain small =
    either_way (λ (l : List ℕ). is_edited_from false l ≡ (marks symbol || is_edited_from false more)) (run == 1) _ _
    (λ _. marked-symbol symbol more plain)
    (λ _. marked-symbol symbol (left_parenthesis ∷ count_text run (right_parenthesis ∷ more)) plain
    ∙ ap (λ b. marks symbol || b) (marked-open (count_text run (right_parenthesis ∷ more)) ∙ marked-count run (right_parenthesis ∷ more) small ∙ marked-close more))

pub marked-end : is_edited_from false [] ≡ false
unfolding is_edited_from
marked-end = refl

marked-from : (symbol run : ℕ) (rest : List ℕ) → is_parenthesis symbol ≡ false → is_written_out rest ≡ true → run + length rest < 1000 →
    is_edited_from false (printed_from symbol run rest) ≡ (marks symbol || list_any marks rest)
unfolding printed_from
marked-from symbol run [] plain written small = marked-run symbol run [] plain (omega (arith, small)) ∙ ap (λ b. marks symbol || b) marked-end
marked-from symbol run (byte ∷ rest) plain written small =
    let parts = and_parts (not (is_parenthesis byte)) (is_written_out rest) written in
    let smaller : run + suc (length rest) < 1000 = small in
    either_way (λ (l : List ℕ). is_edited_from false l ≡ (marks symbol || (marks byte || list_any marks rest))) (symbol == byte) _ _
    (λ same.
    marked-from symbol (run + 1) rest plain parts.1 (omega (arith, smaller))
    ∙ twice (marks symbol) (list_any marks rest) ∙ ap (λ b. marks symbol || (marks b || list_any marks rest)) (eqb-true symbol byte same))
    (λ _. marked-run symbol run (printed_from byte 1 rest) plain (omega (arith, smaller))
    ∙ ap (λ b. marks symbol || b) (marked-from byte 1 rest (not-true (is_parenthesis byte) parts.0) parts.1 (omega (arith, smaller))))
  where
    twice : (a b : Bool) → (a || b) ≡ (a || (a || b))
    twice true b = refl
    twice false b = refl

printed-edited : (mask : List ℕ) → IsHeldMask mask → is_edited (printed mask) ≡ true
printed-edited [] h = absurd (never (mask-marks [] h))
  where
    never : false ≡ true → ⊥
    never e = cc
printed-edited (byte ∷ rest) h =
    let parts = and_parts (not (is_parenthesis byte)) (is_written_out rest) h.is_mask.written_out in
    let short = held_short (byte ∷ rest) h in
    marked-from byte 1 rest (not-true (is_parenthesis byte) parts.0) parts.1 (omega (arith, short)) ∙ mask-marks (byte ∷ rest) h

-- ---- and no X, A or S

byte-no-plain : (b : ℕ) → is_byte b ≡ true → is_plain_symbol b ≡ false
byte-no-plain b h = grind (arith, nat_tests)

none-plain : (text : List ℕ) (n : ℕ) → AreBytes text → first_plain n text ≡ None
unfolding first_plain
none-plain [] n h = refl
none-plain (b ∷ text) n h =
    let parts = and_parts (is_byte (to_ascii_uppercase b)) (list_all (λ c. is_byte (to_ascii_uppercase c)) text) h in
    ap (λ v. if v then Some (n + 1) else first_plain (n + 1) text) (byte-no-plain (to_ascii_uppercase b) parts.0) ∙ none-plain text (n + 1) parts.1

-- ---- it is read

pub mask-read-back : (mask : List ℕ) → IsHeldMask mask → picture_of (printed mask) ≡ Ok (pictures.Edited mask)
mask-read-back mask h =
    let read = printed_masks_are_read mask h.is_mask h.capitals in
    ap (λ b. if b then edited_picture (printed mask) else plain_picture (printed mask)) (printed-edited mask h)
    ∙ ap (λ o. edited_by o (printed mask)) (none-plain (printed mask) 0 (rest-bytes (printed mask) 0 start read.0))
    ∙ ap (λ o. picture_by (held_unless o (printed mask))) read.0
    ∙ ap (λ symbols. Ok (pictures.Edited symbols)) read.1
