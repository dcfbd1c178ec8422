-- What a mask has that no fault is found in: as many digits as a number.
use Rattle.std.proofs.Common.{◌≡◌, ℕ, suc, ◌+◌, ◌<◌, ◌≤◌, Bool, true, false, not, ◌&&◌, ◌||◌, if◌then◌else◌, List, [], ◌∷◌, length, get_or, drop, Ok, Option, Some, None, refl, sym, ap, ◌∙◌, subst, arith, add-one, drop-cons, ◌==◌, nat_le}
use Rattle.std.proofs.Math.Seq.{drop-length}
use Rattle.std.proofs.lemmas.Bool.{and_parts, or_parts, not-true, eqb-false, leb-true, ne_eqb}
use Rattle.std.proofs.lemmas.Bool.Decides.{nat_tests}
use Rattle.std.specs.Char.{to_ascii_uppercase}
use Rattle.std.specs.Prelude.{unwrap_or}
use Rattle.edit_fields.specs.declared.fault.MaskFault.{MaskFault}
use Rattle.edit_fields.specs.declared.shape.Shape.{Shape}
use Rattle.edit_fields.specs.declared.reading.SymbolPlace.{SymbolPlace}
use Rattle.edit_fields.specs.declared.reading.SymbolPlace.TheVariants as places
use Rattle.edit_fields.specs.declared.reading.Reading.{Reading}
use Rattle.edit_fields.specs.Symbol.{symbol_v}
use Rattle.edit_fields.specs.Shape.{behind, digits, empty, is_half, is_whole}
use Rattle.edit_fields.specs.Extent.{ends_well, is_short, longer}
use Rattle.edit_fields.specs.Reading.{added_by, end_fault, fault_from, is_counting, is_parenthesis, is_written_out, last_position, left_parenthesis, placed, right_parenthesis, start, step, step_by, symbol, symbol_fault}
use Rattle.edit_fields.specs.Field.{IsMask, IsNumber, moved, shape_from, shape_of}
use Rattle.edit_fields.proofs.BranchLemmas.{else_taken}

-- ---- the end

end_tells : (counting whole few good : Bool) (x y z : MaskFault) → (if counting || not whole then Some x else (if not few then Some y else (if good then None else Some z))) ≡ None → (whole ≡ true) × (few ≡ true)
end_tells true whole few good x y z h = absurd cc
end_tells false true true good x y z h = (refl, refl)
end_tells false true false good x y z h = absurd cc
end_tells false false few good x y z h = absurd cc

number_of_whole : (shape : Shape) → is_whole shape ≡ true → nat_le (digits shape) 18 ≡ true → IsNumber shape.whole shape.part
number_of_whole shape whole few =
    let parts = and_parts (not (digits shape == 0)) (not (is_half shape.stage)) whole in
    let some : digits shape ≡ 0 → ⊥ = eqb-false (digits shape) 0 (not-true (digits shape == 0) parts.0) in
    let most : digits shape ≤ 18 = leb-true (digits shape) 18 few in
    record { some_digits = omega arith; few_digits = omega arith }

at_end : (last : ℕ) (reading : Reading) → end_fault last reading ≡ None → IsNumber reading.shape.whole reading.shape.part
unfolding end_fault
at_end last reading h =
    let told = end_tells (is_counting reading.place) (is_whole reading.shape) (nat_le (digits reading.shape) 18) (is_short reading.extent && reading.extent.edits && ends_well reading.extent) _ _ _ h in
    number_of_whole reading.shape told.0 told.1

-- ---- one symbol

upper_parenthesis : (byte : ℕ) → to_ascii_uppercase byte ≡ 40 → byte ≡ 40
upper_parenthesis byte h = grind (arith, nat_tests)

not_upper : (byte : ℕ) → is_parenthesis byte ≡ false → (to_ascii_uppercase byte == left_parenthesis) ≡ false
not_upper byte h =
    let left = or_parts (byte == left_parenthesis) (byte == right_parenthesis) h in
    ne_eqb (to_ascii_uppercase byte) 40 (λ e. eqb-false byte 40 left.0 (upper_parenthesis byte e))

pub step_symbol : (place : SymbolPlace) (position byte : ℕ) (reading : Reading) → is_counting place ≡ false → (byte == left_parenthesis) ≡ false → step_by place position byte reading ≡ symbol position byte reading
step_symbol places.Open position byte reading open_place h = refl
step_symbol (places.Behind at) position byte reading open_place h = else_taken (byte == left_parenthesis) _ (symbol position byte reading) h
step_symbol (places.Count at count) position byte reading open_place h = absurd cc

pub not_counting : (b : Bool) (position : ℕ) → is_counting (if b then places.Open else places.Behind position) ≡ false
not_counting true position = refl
not_counting false position = refl

-- the reading goes on behind a symbol, which moves the shape
pub record GoesOn (n upper : ℕ) (reading : Reading) (rest : List ℕ) : Type 0 where
  pub shape : Shape
  pub place : SymbolPlace
  pub comes : behind upper reading.shape ≡ Some shape
  pub counts : is_counting place ≡ false
  pub fault : fault_from n (Ok (record { shape = shape; extent = longer upper reading.extent; place = place })) rest ≡ None

goes_by : (n upper : ℕ) (reading : Reading) (rest : List ℕ) (may : Option Shape) → behind upper reading.shape ≡ may → fault_from n (placed (symbol_fault n upper) (if upper == symbol_v then places.Open else places.Behind n) (added_by upper may reading)) rest ≡ None → GoesOn n upper reading rest
unfolding fault_from
goes_by n upper reading rest None e h = absurd cc
goes_by n upper reading rest (Some shape) e h = record {
  shape = shape;
  place = if upper == symbol_v then places.Open else places.Behind n;
  comes = e;
  counts = not_counting (upper == symbol_v) n;
  fault = h;
}

pub goes_on_symbol : (n upper : ℕ) (reading : Reading) (rest : List ℕ) → is_counting reading.place ≡ false → (upper == left_parenthesis) ≡ false → fault_from n (step n upper reading) rest ≡ None → GoesOn n upper reading rest
unfolding step
goes_on_symbol n upper reading rest counts plain h =
    goes_by n upper reading rest (behind upper reading.shape) refl
    (subst (λ made. fault_from n made rest ≡ None) (step_symbol reading.place n upper reading counts plain) h)

-- ---- all symbols

-- each symbol of a text may come behind those before it, up to the last shape
pub data Come : Shape → List ℕ → Shape → Type 0 where
  ended : {shape : Shape} → Come shape [] shape
  comes : {shape next last : Shape} {byte : ℕ} {rest : List ℕ} → behind (to_ascii_uppercase byte) shape ≡ Some next → Come next rest last → Come shape (byte ∷ rest) last

-- a symbol that may come is taken
pub moved_to : (symbol : ℕ) (shape next : Shape) → behind symbol shape ≡ Some next → moved symbol shape ≡ next
moved_to symbol shape next e = ap (λ o. unwrap_or o shape) e

shape_next : (shape : Shape) (byte : ℕ) (rest : List ℕ) → shape_from shape (byte ∷ rest) ≡ shape_from (moved (to_ascii_uppercase byte) shape) rest
unfolding shape_from
shape_next shape byte rest = refl

pub come_last : {shape last : Shape} {text : List ℕ} → Come shape text last → shape_from shape text ≡ last
unfolding shape_from
come_last ended = refl
come_last (comes {shape} {next} {last} {byte} {rest} e come) = ap (λ s. shape_from s rest) (moved_to (to_ascii_uppercase byte) shape next e) ∙ come_last come

-- the symbols of a mask come, and make a number
pub record Whole (shape : Shape) (text : List ℕ) : Type 0 where
  pub last : Shape
  pub come : Come shape text last
  pub number : IsNumber last.whole last.part

whole_rest : (text : List ℕ) (n : ℕ) (reading : Reading) → is_counting reading.place ≡ false → is_written_out text ≡ true → fault_from n (Ok reading) text ≡ None → Whole reading.shape text
unfolding fault_from
whole_rest [] n reading counts plain h = record { last = reading.shape; come = ended; number = at_end (last_position n) reading h }
whole_rest (byte ∷ rest) n reading counts plain h =
    let parts = and_parts (not (is_parenthesis byte)) (is_written_out rest) plain in
    let on = goes_on_symbol (n + 1) (to_ascii_uppercase byte) reading rest counts (not_upper byte (not-true (is_parenthesis byte) parts.0)) h in
    let whole = whole_rest rest (n + 1) (record { shape = on.shape; extent = longer (to_ascii_uppercase byte) reading.extent; place = on.place }) on.counts parts.1 on.fault in
    record { last = whole.last; come = comes on.comes whole.come; number = whole.number }

pub mask_whole : (mask : List ℕ) → IsMask mask → Whole empty mask
mask_whole mask is = whole_rest mask 0 start refl is.written_out is.no_fault

pub mask_number : (mask : List ℕ) → IsMask mask → IsNumber (shape_of mask).whole (shape_of mask).part
mask_number mask is =
    let whole = mask_whole mask is in
    subst (λ (s : Shape). IsNumber s.whole s.part) (sym (come_last whole.come)) whole.number

-- ---- the shape of a mask

pub shape_on : (mask : List ℕ) (n : ℕ) (shape : Shape) (upper : ℕ) (next all : Shape) → n < length mask → upper ≡ to_ascii_uppercase (get_or mask n 0) → next ≡ moved upper shape → all ≡ shape_from shape (drop n mask) → all ≡ shape_from next (drop (n + 1) mask)
shape_on mask n shape upper next all h u e is =
    is ∙ ap (shape_from shape) (drop-cons mask n 0 h) ∙ shape_next shape (get_or mask n 0) (drop (suc n) mask)
    ∙ ap (λ made. shape_from made (drop (suc n) mask)) (ap (λ b. moved b shape) (sym u) ∙ sym e)
    ∙ ap (λ k. shape_from next (drop k mask)) (sym (add-one n))

pub shape_ends : (mask : List ℕ) (n : ℕ) (shape all : Shape) → n ≡ length mask → all ≡ shape_from shape (drop n mask) → shape ≡ all
unfolding shape_from
shape_ends mask n shape all e is =
    sym (is ∙ ap (λ k. shape_from shape (drop k mask)) e ∙ ap (shape_from shape) (drop-length mask))
