-- A number that is put into a binary or a packed item is read there.
use Rattle.std.proofs.Common.{◌≡◌, ℕ, zero, suc, ◌+◌, ◌-◌, ◌<◌, ◌≤◌, ◌^◌, Bool, true, false, ◌&&◌, ◌==◌, nat_le, if◌then◌else◌, List, [], ◌∷◌, ◌++◌, length, take, drop, replicate, Option, Some, None, ℤ, pos, negsuc, neg_ℤ, ◌≤ℤ◌, unsigned_abs, refl, ap, sym, ◌∙◌, arith, leb-true, eqb-true, length-take-le}
use Rattle.std.specs.Prelude.{slice_set}
use Rattle.std.specs.Int.{is_negative}
use Rattle.std.proofs.Math.Nat.{mod-eq_of_lt}
use Rattle.std.proofs.Math.Seq.{drop-append_seam, take-append_seam, take-length}
use Rattle.std.proofs.lemmas.Int.{ints}
use Rattle.std.proofs.lemmas.List.{append-nil, append_assoc}
use Rattle.std.proofs.lemmas.Bool.{and_parts}
use Rattle.stored_forms.specs.Binary.{binary_bytes, binary_size, binary_value}
use Rattle.stored_forms.specs.Item.{IsHeld}
use Rattle.stored_forms.specs.Packed.{packed_bytes, packed_size, packed_value}
use Rattle.stored_forms.proofs.BinaryLemmas.{binary-back, length-binary_bytes}
use Rattle.stored_forms.proofs.PackedLemmas.{length-packed_bytes, packed-back}
use Rattle.edit_fields.specs.Edited.{edited, shown_size}
use Rattle.edit_fields.proofs.SymbolsHaveBytes.{symbols_have_bytes}
use Rattle.cob_store.specs.declared.area.Storage.TheVariants.{Binary, Packed}
use Rattle.cob_store.specs.declared.spot.Spot.{Spot}
use Rattle.cob_store.specs.Laws.{BinaryNumbersAreRead, EditedItemsShowAll, PackedNumbersAreRead}
use Rattle.cob_store.specs.Number.{held_number, is_stored, number_bytes, number_in}
use Rattle.cob_store.specs.Store.{Roots, fitted, is_inside, number_of, put_at, replaced, root_bytes, spot_bytes}

-- ---- bytes at a spot

root-there : (roots : Roots) (root : ℕ) → 1 ≤ length (root_bytes roots root) → root < length roots
root-there [] root some = absurd (omega (arith, some))
root-there (first ∷ roots) zero some = omega arith
root-there (first ∷ roots) (suc root) some = let there = root-there roots root some in omega (arith, there)

root-set : (roots : Roots) (root : ℕ) (bytes : List ℕ) → root < length roots → root_bytes (slice_set roots root bytes) root ≡ bytes
root-set [] root bytes there = absurd (omega (arith, there))
root-set (first ∷ roots) zero bytes there = refl
root-set (first ∷ roots) (suc root) bytes there = root-set roots root bytes (omega (arith, there))

part-back : (old bytes : List ℕ) (start size : ℕ) → start + size ≤ length old → length bytes ≡ size → take size (drop start (replaced old start size bytes)) ≡ bytes
part-back old bytes start size within long =
    let front : length (take start old) ≡ start = length-take-le start old (omega (arith, within)) in
    ap (take size)
    (ap (drop start) (append_assoc (take start old) bytes (drop (start + size) old))
    ∙ ap (λ n. drop n (take start old ++ (bytes ++ drop (start + size) old))) (sym front)
    ∙ drop-append_seam (take start old) (bytes ++ drop (start + size) old))
    ∙ ap (λ n. take n (bytes ++ drop (start + size) old)) (sym long)
    ∙ take-append_seam bytes (drop (start + size) old)

bytes-back : (roots : Roots) (spot : Spot) (bytes : List ℕ) → is_inside roots spot ≡ true → 1 ≤ spot.length → length bytes ≡ spot.length → spot_bytes (put_at roots spot bytes) spot ≡ bytes
bytes-back roots spot bytes is some long =
    let within : spot.start + spot.length ≤ length (root_bytes roots spot.root) = leb-true _ _ is in
    let there = root-there roots spot.root (omega (arith, within, some)) in
    let new : List ℕ = replaced (root_bytes roots spot.root) spot.start spot.length bytes in
    ap (λ b. spot_bytes (if b then slice_set roots spot.root new else roots) spot) is
    ∙ ap (λ root. take spot.length (drop spot.start root)) (root-set roots spot.root new there)
    ∙ part-back (root_bytes roots spot.root) bytes spot.start spot.length within long

-- ---- the number that is held

pub not-below : (n : ℕ) → is_negative (pos n) ≡ false
not-below n = by_case (is_negative (pos n)) refl
  where
    by_case : (b : Bool) → b ≡ is_negative (pos n) → is_negative (pos n) ≡ false
    by_case true is = absurd (omega (arith, leb-true (suc n) 0 (sym is)))
    by_case false is = sym is

plus-held : (signed : Bool) (digits n : ℕ) → n < 10 ^ digits → held_number signed digits false n ≡ pos n
plus-held true digits n short = ap pos (mod-eq_of_lt short)
plus-held false digits n short = ap pos (mod-eq_of_lt short)

minus-held : (signed : Bool) (digits n : ℕ) → suc n < 10 ^ digits → (signed ≡ false → pos 0 ≤ℤ negsuc n) → held_number signed digits true (suc n) ≡ negsuc n
minus-held true digits n short sign = ap (λ m. neg_ℤ (pos m)) (mod-eq_of_lt short)
minus-held false digits n short sign = let no = sign refl in absurd (omega (arith, ints, no))

same-held : (number : ℤ) (digits : ℕ) (signed : Bool) → IsHeld number digits signed → held_number signed digits (is_negative number) (unsigned_abs number) ≡ number
same-held (pos n) digits signed held = ap (λ minus. held_number signed digits minus n) (not-below n) ∙ plus-held signed digits n held.short
same-held (negsuc n) digits signed held = minus-held signed digits n held.short held.sign

-- ---- an item

-- what a test of storage tells
record IsItem (size : ℕ → ℕ) (digits places : ℕ) : Type 0 where
  some : 1 ≤ digits
  few : digits ≤ 18
  right : places ≡ size digits

item-of : (size : ℕ → ℕ) (digits places : ℕ) → is_stored size digits places ≡ true → IsItem size digits places
item-of size digits places stored =
    let front = and_parts (nat_le 1 digits && nat_le digits 18) (places == size digits) stored in
    let bounds = and_parts (nat_le 1 digits) (nat_le digits 18) front.0 in
    record {
      some = leb-true 1 digits bounds.0;
      few = leb-true digits 18 bounds.1;
      right = eqb-true places (size digits) front.1;
    }

-- the bytes of a number are as many as the item has, and read as the number
abbrev pub ReadsBack : (bytes : List ℕ) (places : ℕ) (read : List ℕ → Option ℤ) → ℤ → Type 0
ReadsBack bytes places read number = (length bytes ≡ places) × (read bytes ≡ Some number)

pub binary-item : (signed : Bool) (digits places : ℕ) (number : ℤ) → is_stored binary_size digits places ≡ true → IsHeld number digits signed →
    ReadsBack (number_bytes signed (Binary digits) places number) places (number_in signed (Binary digits)) number
binary-item signed digits places number stored held =
    let item = item-of binary_size digits places stored in
    let bytes : number_bytes signed (Binary digits) places number ≡ binary_bytes number digits =
    ap (λ b. if b then binary_bytes (held_number signed digits (is_negative number) (unsigned_abs number)) digits else replicate places 0) stored
    ∙ ap (λ value. binary_bytes value digits) (same-held number digits signed held) in
    let long : length (binary_bytes number digits) ≡ places = length-binary_bytes number digits ∙ sym item.right in (
      ap length bytes ∙ long,
      ap (number_in signed (Binary digits)) bytes
          ∙ ap (λ n. if is_stored binary_size digits n then binary_value (binary_bytes number digits) digits signed else None) long
          ∙ ap (λ b. if b then binary_value (binary_bytes number digits) digits signed else None) stored
          ∙ binary-back number digits signed item.few held,
    )

pub packed-item : (signed : Bool) (digits places : ℕ) (number : ℤ) → is_stored packed_size digits places ≡ true → IsHeld number digits signed →
    ReadsBack (number_bytes signed (Packed digits) places number) places (number_in signed (Packed digits)) number
packed-item signed digits places number stored held =
    let item = item-of packed_size digits places stored in
    let bytes : number_bytes signed (Packed digits) places number ≡ packed_bytes number digits signed =
    ap (λ b. if b then packed_bytes (held_number signed digits (is_negative number) (unsigned_abs number)) digits signed else replicate places 0) stored
    ∙ ap (λ value. packed_bytes value digits signed) (same-held number digits signed held) in
    let long : length (packed_bytes number digits signed) ≡ places = length-packed_bytes number digits signed held.short ∙ sym item.right in (
      ap length bytes ∙ long,
      ap (number_in signed (Packed digits)) bytes
          ∙ ap (λ n. if is_stored packed_size digits n then packed_value (packed_bytes number digits signed) digits signed else None) long
          ∙ ap (λ b. if b then packed_value (packed_bytes number digits signed) digits signed else None) stored
          ∙ packed-back number digits signed held,
    )

-- ---- at its spot

binary-some : (digits : ℕ) → 1 ≤ binary_size digits
binary-some digits =
    elim (nat_le digits 4) as (λ t. 1 ≤ (if t then 2 else (if nat_le digits 9 then 4 else 8))) [
      | true ↦ omega arith
      | false ↦ elim (nat_le digits 9) as (λ t. 1 ≤ (if t then 4 else 8)) [ true ↦ omega arith | false ↦ omega arith ]
    ]

pub binary_numbers_are_read : BinaryNumbersAreRead
binary_numbers_are_read roots spot signed whole part digits number inside stored held =
    let item = item-of binary_size digits spot.length stored in
    let back = binary-item signed digits spot.length number stored held in
    let bytes = number_bytes signed (Binary digits) spot.length number in
    ap (λ found. number_of (number_in signed (Binary digits) found) part) (bytes-back roots spot bytes inside (omega (arith, item.right, binary-some digits)) back.0)
    ∙ ap (λ read. number_of read part) back.1

pub packed_numbers_are_read : PackedNumbersAreRead
packed_numbers_are_read roots spot signed whole part digits number inside stored held =
    let item = item-of packed_size digits spot.length stored in
    let back = packed-item signed digits spot.length number stored held in
    let bytes = number_bytes signed (Packed digits) spot.length number in
    ap (λ found. number_of (number_in signed (Packed digits) found) part) (bytes-back roots spot bytes inside (omega (arith, item.right)) back.0)
    ∙ ap (λ read. number_of read part) back.1

-- ---- edited items

whole-fits : (bytes : List ℕ) (size : ℕ) → length bytes ≡ size → fitted size bytes ≡ bytes
whole-fits bytes size long =
    ap (λ n. take n bytes ++ replicate (n - length bytes) 32) (sym long)
    ∙ ap (λ n. take (length bytes) bytes ++ replicate n 32) (none-left (length bytes))
    ∙ append-nil (take (length bytes) bytes)
    ∙ take-length bytes
  where
    none-left : (n : ℕ) → n - n ≡ 0
    none-left n = omega arith

pub edited_items_show_all : EditedItemsShowAll
edited_items_show_all mask number = whole-fits (edited mask number) (shown_size mask) (symbols_have_bytes mask number)
