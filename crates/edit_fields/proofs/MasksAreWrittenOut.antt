-- A mask with counts stands for one without.
use Rattle.std.proofs.Common.{◌≡◌, ℕ, zero, suc, ◌+◌, ◌-◌, Bool, true, false, not, ◌==◌, ◌&&◌, ◌||◌, if◌then◌else◌, List, [], ◌∷◌, ◌++◌, replicate, Ok, Err, Option, Some, None, inl, inr, refl, sym, ap, ◌∙◌, subst, nat_le}
use Rattle.std.proofs.lemmas.Bool.{and_from, cases_Bool, eqb-true, not_from_false, or_from, or_parts}
use Rattle.std.proofs.lemmas.Str.Ascii.{uppercase-uppercase}
use Rattle.std.specs.Char.{to_ascii_uppercase}
use Rattle.edit_fields.specs.declared.fault.MaskFault.{MaskFault}
use Rattle.edit_fields.specs.declared.fault.MaskFault.TheVariants as faults
use Rattle.edit_fields.specs.declared.shape.Shape.{Shape}
use Rattle.edit_fields.specs.declared.extent.Extent.{Extent}
use Rattle.edit_fields.specs.declared.reading.SymbolPlace.{SymbolPlace}
use Rattle.edit_fields.specs.declared.reading.SymbolPlace.TheVariants as places
use Rattle.edit_fields.specs.declared.reading.Reading.{Reading}
use Rattle.edit_fields.specs.Symbol.{symbol_v}
use Rattle.edit_fields.specs.Shape.{behind, digits, empty, is_whole}
use Rattle.edit_fields.specs.Extent.{ends_well, is_short, longer, no_extent}
use Rattle.edit_fields.specs.Reading.{added_by, closed, counted, end_fault, fault_from, fault_of, is_counting, is_digit, is_parenthesis, is_written_out, last_position, left_parenthesis, placed, repeated, repeated_on, right_parenthesis, step, step_by, symbol, symbol_fault, written_from}
use Rattle.edit_fields.specs.Laws.{MasksAreWrittenOut}
use Rattle.edit_fields.proofs.BranchLemmas.{either_way, then_taken, else_taken}
use Rattle.edit_fields.proofs.ReadingLemmas.{none_on}
use Rattle.edit_fields.proofs.MaskLemmas.{goes_on_symbol, not_counting, step_symbol}

-- what was read, at a place
abbrev pub at : Shape → Extent → SymbolPlace → Reading
at shape extent place = record { shape = shape; extent = extent; place = place }

-- the count that is open at a place
abbrev count_of : SymbolPlace → Option ℕ
count_of places.Open = None
count_of (places.Behind position) = None
count_of (places.Count position count) = Some count

-- a text without counts is read on to its end
record Reads (n : ℕ) (reading : Reading) (text : List ℕ) : Type 0 where
  fault : fault_from n (Ok reading) text ≡ None
  plain : is_written_out text ≡ true

-- a symbol in capitals that may have a count
pub record Capital (last : ℕ) : Type 0 where
  pub upper : to_ascii_uppercase last ≡ last
  pub plain : is_parenthesis last ≡ false

-- ---- symbols that may come

pub none_some : {A : Type 0} (o : Option A) (x : A) → o ≡ None → o ≡ Some x → ⊥
none_some o x e f = cc

left_none : (shape : Shape) → behind 40 shape ≡ None
unfolding behind
left_none shape = refl

right_none : (shape : Shape) → behind 41 shape ≡ None
unfolding behind
right_none shape = refl

pub comes_plain : (byte : ℕ) (shape next : Shape) → behind byte shape ≡ Some next → is_parenthesis byte ≡ false
comes_plain byte shape next e =
    let left : (byte == left_parenthesis) ≡ false = elim (cases_Bool (byte == left_parenthesis)) [
      | inl is ↦ absurd (none_some (behind byte shape) next (ap (λ b. behind b shape) (eqb-true byte 40 is) ∙ left_none shape) e)
      | inr is ↦ is
    ] in
    let right : (byte == right_parenthesis) ≡ false = elim (cases_Bool (byte == right_parenthesis)) [
      | inl is ↦ absurd (none_some (behind byte shape) next (ap (λ b. behind b shape) (eqb-true byte 41 is) ∙ right_none shape) e)
      | inr is ↦ is
    ] in
    or_from (byte == left_parenthesis) (byte == right_parenthesis) left right

pub capital_of : (byte : ℕ) (shape next : Shape) → behind (to_ascii_uppercase byte) shape ≡ Some next → Capital (to_ascii_uppercase byte)
capital_of byte shape next e = record { upper = uppercase-uppercase byte; plain = comes_plain (to_ascii_uppercase byte) shape next e }

pub longer_last : (byte : ℕ) (extent : Extent) → (longer byte extent).last ≡ byte
longer_last byte extent = either_way (λ (e : Extent). e.last ≡ byte) (extent.last == byte) _ _ (λ is. eqb-true extent.last byte is) (λ _. refl)

pub not_left : (byte : ℕ) → is_parenthesis byte ≡ false → (byte == left_parenthesis) ≡ false
not_left byte plain = (or_parts (byte == left_parenthesis) (byte == right_parenthesis) plain).0

-- a symbol that may come is taken at any place
pub takes : (m byte : ℕ) (shape next : Shape) (extent : Extent) (place : SymbolPlace) → is_counting place ≡ false → Capital byte → behind byte shape ≡ Some next → step m (to_ascii_uppercase byte) (at shape extent place) ≡ Ok (at next (longer byte extent) (if byte == symbol_v then places.Open else places.Behind m))
unfolding step
takes m byte shape next extent place counts capital e =
    ap (λ b. step_by place m b (at shape extent place)) capital.upper
    ∙ step_symbol place m byte (at shape extent place) counts (not_left byte capital.plain)
    ∙ ap (λ may. placed (symbol_fault m byte) (if byte == symbol_v then places.Open else places.Behind m) (added_by byte may (at shape extent place))) e

-- and the rest is read behind it
reads_symbol : (m byte : ℕ) (shape next : Shape) (extent : Extent) (place : SymbolPlace) (rest : List ℕ) → is_counting place ≡ false → Capital byte → behind byte shape ≡ Some next → Reads (m + 1) (at next (longer byte extent) (if byte == symbol_v then places.Open else places.Behind (m + 1))) rest → Reads m (at shape extent place) (byte ∷ rest)
unfolding fault_from
reads_symbol m byte shape next extent place rest counts capital e reads = record {
  fault = ap (λ made. fault_from (m + 1) made rest) (takes (m + 1) byte shape next extent place counts capital e) ∙ reads.fault;
  plain = and_from (not (is_parenthesis byte)) (is_written_out rest) (not_from_false (is_parenthesis byte) capital.plain) reads.plain;
}

-- ---- a count

same_reading : (a b : Reading) → Some a ≡ Some b → a ≡ b
same_reading a b e = cc

-- a symbol that is taken once more
pub added_through : (k last : ℕ) (reading after : Reading) (may : Option Shape) (Goal : Type 0) → behind last reading.shape ≡ may → repeated_on k last (added_by last may reading) ≡ Some after → ((next : Shape) → behind last reading.shape ≡ Some next → repeated_on k last (Some (at next (longer last reading.extent) reading.place)) ≡ Some after → Goal) → Goal
added_through k last reading after None Goal e h go = absurd (none_some (repeated_on k last None) after (none_on k last) h)
added_through k last reading after (Some next) Goal e h go = go next e h

-- a run is read symbol by symbol
repeat_same : (k m last : ℕ) (shape : Shape) (extent : Extent) (place other : SymbolPlace) (after : Reading) (more : List ℕ) → is_counting other ≡ false → Capital last → extent.last ≡ last → repeated_on k last (Some (at shape extent place)) ≡ Some after → ((n : ℕ) (place : SymbolPlace) → is_counting place ≡ false → after.extent.last ≡ last → Reads n (at after.shape after.extent place) more) → Reads m (at shape extent other) (replicate k last ++ more)
repeat_same zero m last shape extent place other after more counts capital is_last h go =
    let same : at shape extent place ≡ after = same_reading (at shape extent place) after h in
    subst (λ (r : Reading). Reads m (at r.shape r.extent other) more) (sym same)
    (go m other counts (ap (λ (r : Reading). r.extent.last) (sym same) ∙ is_last))
repeat_same (suc k) m last shape extent place other after more counts capital is_last h go =
    added_through k last (at shape extent place) after (behind last shape) (Reads m (at shape extent other) (replicate (suc k) last ++ more)) refl h
    (λ next e f. reads_symbol m last shape next extent other (replicate k last ++ more) counts capital e
    (repeat_same k (m + 1) last next (longer last extent) place (if last == symbol_v then places.Open else places.Behind (m + 1)) after more (not_counting (last == symbol_v) (m + 1)) capital (longer_last last extent) f go))

-- ---- what the text's reading says at each byte

pub err_none : (n : ℕ) (fault : MaskFault) (rest : List ℕ) → fault_from n (Err fault) rest ≡ None → ⊥
unfolding fault_from
err_none n fault rest h = cc

-- no parenthesis stands where no count may come
open_left : (n byte : ℕ) (shape : Shape) (extent : Extent) (rest : List ℕ) → (byte == left_parenthesis) ≡ true → fault_from n (step n byte (at shape extent places.Open)) rest ≡ None → ⊥
unfolding step
open_left n byte shape extent rest is h =
    err_none n (symbol_fault n byte) rest
    (subst (λ may. fault_from n (placed (symbol_fault n byte) (if byte == symbol_v then places.Open else places.Behind n) (added_by byte may (at shape extent places.Open))) rest ≡ None)
    (ap (λ b. behind b shape) (eqb-true byte 40 is) ∙ left_none shape) h)

count_begins : (n byte position : ℕ) (shape : Shape) (extent : Extent) (rest : List ℕ) → (byte == left_parenthesis) ≡ true → fault_from n (step n byte (at shape extent (places.Behind position))) rest ≡ None → fault_from n (Ok (at shape extent (places.Count position 0))) rest ≡ None
unfolding step
count_begins n byte position shape extent rest is h =
    subst (λ made. fault_from n made rest ≡ None) (then_taken (byte == left_parenthesis) _ (symbol n byte (at shape extent (places.Behind position))) is) h

count_goes_on : (n byte position count : ℕ) (shape : Shape) (extent : Extent) (rest : List ℕ) → is_digit byte ≡ true → fault_from n (step n byte (at shape extent (places.Count position count))) rest ≡ None → fault_from n (Ok (at shape extent (places.Count position (counted count (byte - 48))))) rest ≡ None
unfolding step
count_goes_on n byte position count shape extent rest is h =
    subst (λ made. fault_from n made rest ≡ None) (then_taken (is_digit byte) _ (if byte == right_parenthesis then closed n position count (at shape extent (places.Count position count)) else Err (fault_of n byte)) is) h

placed_through : (n position : ℕ) (may : Option Reading) (rest : List ℕ) (Goal : Type 0) → fault_from n (placed (faults.Order position) places.Open may) rest ≡ None → ((after : Reading) → may ≡ Some after → fault_from n (Ok (at after.shape after.extent places.Open)) rest ≡ None → Goal) → Goal
placed_through n position None rest Goal h go = absurd (err_none n (faults.Order position) rest h)
placed_through n position (Some after) rest Goal h go = go after refl h

count_ends : (n byte position count : ℕ) (shape : Shape) (extent : Extent) (rest : List ℕ) (Goal : Type 0) → is_digit byte ≡ false → fault_from n (step n byte (at shape extent (places.Count position count))) rest ≡ None → ((after : Reading) → repeated_on (count - 1) extent.last (Some (at shape extent (places.Count position count))) ≡ Some after → fault_from n (Ok (at after.shape after.extent places.Open)) rest ≡ None → Goal) → Goal
unfolding step
count_ends n byte position count shape extent rest Goal other h go =
    let reading : Reading = at shape extent (places.Count position count) in
    let ends = subst (λ made. fault_from n made rest ≡ None) (else_taken (is_digit byte) (Ok (at shape extent (places.Count position (counted count (byte - 48))))) _ other) h in
    elim (cases_Bool (byte == right_parenthesis)) [
      | inl right ↦
          let closes = subst (λ made. fault_from n made rest ≡ None) (then_taken (byte == right_parenthesis) (closed n position count reading) (Err (fault_of n byte)) right) ends in
          elim (cases_Bool (count == 0)) [
            | inl none ↦ absurd (err_none n (faults.Order n) rest (subst (λ made. fault_from n made rest ≡ None) (then_taken (count == 0) (Err (faults.Order n)) (placed (faults.Order position) places.Open (repeated (count - 1) extent.last reading)) none) closes))
            | inr some ↦ placed_through n position (repeated (count - 1) extent.last reading) rest Goal (subst (λ made. fault_from n made rest ≡ None) (else_taken (count == 0) (Err (faults.Order n)) (placed (faults.Order position) places.Open (repeated (count - 1) extent.last reading)) some) closes) go
          ]
      | inr wrong ↦ absurd (err_none n (fault_of n byte) rest (subst (λ made. fault_from n made rest ≡ None) (else_taken (byte == right_parenthesis) (closed n position count reading) (Err (fault_of n byte)) wrong) ends))
    ]

-- ---- the end

end_moves : (counting whole few good : Bool) (x y z u v w : MaskFault) → (if counting || not whole then Some x else (if not few then Some y else (if good then None else Some z))) ≡ None → (if false || not whole then Some u else (if not few then Some v else (if good then None else Some w))) ≡ None
end_moves true whole few good x y z u v w h = absurd cc
end_moves false true true true x y z u v w h = refl
end_moves false true true false x y z u v w h = absurd cc
end_moves false true false good x y z u v w h = absurd cc
end_moves false false few good x y z u v w h = absurd cc

pub same_end : (last m : ℕ) (shape : Shape) (extent : Extent) (place other : SymbolPlace) → is_counting other ≡ false → end_fault last (at shape extent place) ≡ None → end_fault m (at shape extent other) ≡ None
unfolding end_fault
same_end last m shape extent place other counts h =
    subst (λ counting. (if counting || not (is_whole shape) then Some (faults.Order m) else (if not (nat_le (digits shape) 18) then Some (faults.TooManyDigits m) else (if is_short extent && extent.edits && ends_well extent then None else Some (faults.Order m)))) ≡ None) (sym counts)
    (end_moves (is_counting place) (is_whole shape) (nat_le (digits shape) 18) (is_short extent && extent.edits && ends_well extent) _ _ _ _ _ _ h)

-- ---- all bytes

no_count : (place : SymbolPlace) → is_counting place ≡ false → count_of place ≡ None
no_count places.Open counts = refl
no_count (places.Behind position) counts = refl
no_count (places.Count position count) counts = absurd cc

-- behind a symbol the last one is that
behind_symbol : (n byte : ℕ) (extent : Extent) (place : SymbolPlace) (rest : List ℕ) → is_counting place ≡ false → written_from (count_of place) (longer byte extent).last rest ≡ written_from None byte rest
behind_symbol n byte extent place rest counts =
    ap (λ c. written_from c (longer byte extent).last rest) (no_count place counts)
    ∙ ap (λ l. written_from None l rest) (longer_last byte extent)

reads_end : (last m : ℕ) (shape : Shape) (extent : Extent) (place other : SymbolPlace) → is_counting other ≡ false → end_fault last (at shape extent place) ≡ None → Reads m (at shape extent other) []
unfolding fault_from
reads_end last m shape extent place other counts h = record { fault = same_end last (last_position m) shape extent place other counts h; plain = refl }

reads_on : (text : List ℕ) (n m : ℕ) (shape : Shape) (extent : Extent) (place other : SymbolPlace) → is_counting other ≡ false → Capital extent.last → fault_from n (Ok (at shape extent place)) text ≡ None → Reads m (at shape extent other) (written_from (count_of place) extent.last text)
unfolding fault_from written_from
reads_on [] n m shape extent place other counts capital h = reads_end (last_position n) m shape extent place other counts h
reads_on (byte ∷ rest) n m shape extent places.Open other counts capital h =
    let upper : ℕ = to_ascii_uppercase byte in
    either_way (λ (l : List ℕ). Reads m (at shape extent other) l) (upper == left_parenthesis) _ _
    (λ is. absurd (open_left (n + 1) upper shape extent rest is h))
    (λ plain.
    let on = goes_on_symbol (n + 1) upper (at shape extent places.Open) rest refl plain h in
    let capital_on = capital_of byte shape on.shape on.comes in
    let rest_on = reads_on rest (n + 1) (m + 1) on.shape (longer upper extent) on.place (if upper == symbol_v then places.Open else places.Behind (m + 1)) (not_counting (upper == symbol_v) (m + 1)) (subst Capital (sym (longer_last upper extent)) capital_on) on.fault in
    reads_symbol m upper shape on.shape extent other (written_from None upper rest) counts capital_on on.comes
    (subst (λ l. Reads (m + 1) (at on.shape (longer upper extent) (if upper == symbol_v then places.Open else places.Behind (m + 1))) l) (behind_symbol n upper extent on.place rest on.counts) rest_on))
reads_on (byte ∷ rest) n m shape extent (places.Behind position) other counts capital h =
    let upper : ℕ = to_ascii_uppercase byte in
    either_way (λ (l : List ℕ). Reads m (at shape extent other) l) (upper == left_parenthesis) _ _
    (λ is. reads_on rest (n + 1) m shape extent (places.Count position 0) other counts capital (count_begins (n + 1) upper position shape extent rest is h))
    (λ plain.
    let on = goes_on_symbol (n + 1) upper (at shape extent (places.Behind position)) rest refl plain h in
    let capital_on = capital_of byte shape on.shape on.comes in
    let rest_on = reads_on rest (n + 1) (m + 1) on.shape (longer upper extent) on.place (if upper == symbol_v then places.Open else places.Behind (m + 1)) (not_counting (upper == symbol_v) (m + 1)) (subst Capital (sym (longer_last upper extent)) capital_on) on.fault in
    reads_symbol m upper shape on.shape extent other (written_from None upper rest) counts capital_on on.comes
    (subst (λ l. Reads (m + 1) (at on.shape (longer upper extent) (if upper == symbol_v then places.Open else places.Behind (m + 1))) l) (behind_symbol n upper extent on.place rest on.counts) rest_on))
reads_on (byte ∷ rest) n m shape extent (places.Count position count) other counts capital h =
    let upper : ℕ = to_ascii_uppercase byte in
    either_way (λ (l : List ℕ). Reads m (at shape extent other) l) (is_digit upper) _ _
    (λ is. reads_on rest (n + 1) m shape extent (places.Count position (counted count (upper - 48))) other counts capital (count_goes_on (n + 1) upper position count shape extent rest is h))
    (λ no_digit. count_ends (n + 1) upper position count shape extent rest (Reads m (at shape extent other) (replicate (count - 1) extent.last ++ written_from None extent.last rest)) no_digit h
    (λ after e f. repeat_same (count - 1) m extent.last shape extent (places.Count position count) other after (written_from None extent.last rest) counts capital refl e
    (λ k place open_place last_is.
    subst (λ l. Reads k (at after.shape after.extent place) (written_from None l rest)) last_is
    (reads_on rest (n + 1) k after.shape after.extent places.Open place open_place (subst Capital (sym last_is) capital) f))))

pub masks_are_written_out : MasksAreWrittenOut
masks_are_written_out text h =
    let reads = reads_on text 0 0 empty no_extent places.Open places.Open refl (record { upper = refl; plain = refl }) h in
    record { no_fault = reads.fault; written_out = reads.plain }
