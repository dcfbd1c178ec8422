-- Reading is the rule on all bytes, and values have one spelling.
use Rattle.std.proofs.Common.{◌≡◌, ℕ, zero, suc, ◌+◌, ◌-◌, ◌*◌, ◌%◌, ◌^◌, ◌<◌, ◌≤◌, ◌⊎◌, Bool, true, false, ◌&&◌, ◌||◌, ◌==◌, List, [], ◌∷◌, ◌++◌, length, take, drop, replicate, Option, Some, None, IfSome, ℤ, pos, negsuc, neg_ℤ, ◌≤ℤ◌, unsigned_abs, nat_le, if◌then◌else◌, arith, refl, sym, ap, ap₂, ◌∙◌, subst, inl, inr, lit<, leb-true, eqb-true, mod-lt, length-drop, length-take-le, take-append-drop}
use Rattle.std.proofs.lemmas.Int.{ints}
use Rattle.std.proofs.lemmas.Int.Digits.{number_lt}
use Rattle.std.proofs.lemmas.List.Elements.{recursion_from_All}
use Rattle.std.proofs.lemmas.Option.{cond_some, option_and_then_some, same_Some}
use Rattle.std.specs.Int.Digits.{AllBelowBase, number_from_digits}
use Rattle.std.specs.List.{list_all}
use Rattle.stored_forms.specs.Item.{IsHeld}
use Rattle.stored_forms.specs.Places.{low_digits}
use Rattle.stored_forms.specs.Binary.{binary_size, binary_bytes, binary_value}
use Rattle.stored_forms.specs.Packed.{decimal_number, fill_count, halves_of, last_half, minus_half, number_halves, packed_bytes, packed_number, packed_size, packed_value, plus_half, unsigned_half, value_by_sign}
use Rattle.stored_forms.specs.Laws.{AreBytes, IsPacked, SameButSign, Tells}
use Rattle.stored_forms.proofs.ItemLemmas.{both-true}
use Rattle.stored_forms.proofs.PlaceLemmas.{low_digits-number_after}
use Rattle.stored_forms.proofs.BinaryLemmas.{binary-back, binary-read}
use Rattle.stored_forms.proofs.PackedLemmas.{halves-whole, length-halves, number_halves-at, packed-back, packed-spelled}

-- ---- binary

pub below-bytes : (size : ℕ) (bytes : List ℕ) → AreBytes size bytes → AllBelowBase 256 bytes
below-bytes size bytes are = recursion_from_All (λ (byte : ℕ). byte < 256) bytes are.small

pub binary-rule : (bytes : List ℕ) (digits : ℕ) (signed : Bool) (value : ℤ) → digits ≤ 18 → AreBytes (binary_size digits) bytes → (binary_value bytes digits signed ≡ Some value → IsHeld value digits signed × (bytes ≡ binary_bytes value digits)) × (IsHeld value digits signed × (bytes ≡ binary_bytes value digits) → binary_value bytes digits signed ≡ Some value)
binary-rule bytes digits signed value few are = (
  binary-read bytes digits signed value are.count (below-bytes (binary_size digits) bytes are),
  λ h. ap (λ (xs : List ℕ). binary_value xs digits signed) h.1 ∙ binary-back value digits signed few h.0,
)

-- ---- the sign of packed items

sign-tells : (sign : ℕ) (signed : Bool) (number : ℕ) (value : ℤ) → value_by_sign sign signed number ≡ Some value → (unsigned_abs value ≡ number) × Tells sign signed value
sign-tells sign signed number value =
    elim (sign == plus_half) as (λ (p : Bool). (sign == plus_half) ≡ p → (if p || (sign == unsigned_half) then Some (pos number) else (if (sign == minus_half) && signed then Some (neg_ℤ (pos number)) else None)) ≡ Some value → (unsigned_abs value ≡ number) × Tells sign signed value) [
      | true ↦ λ e h. not_negative sign signed number value (inl (eqb-true sign plus_half e)) h
      | false ↦ λ _.
          elim (sign == unsigned_half) as (λ (q : Bool). (sign == unsigned_half) ≡ q → (if q then Some (pos number) else (if (sign == minus_half) && signed then Some (neg_ℤ (pos number)) else None)) ≡ Some value → (unsigned_abs value ≡ number) × Tells sign signed value) [
            | true ↦ λ e h. not_negative sign signed number value (inr (eqb-true sign unsigned_half e)) h
            | false ↦ λ _ h.
                let parts = cond_some ((sign == minus_half) && signed) (neg_ℤ (pos number)) value h in
                let both = both-true (sign == minus_half) signed parts.0 in
                negative sign signed number value (eqb-true sign minus_half both.0) both.1 parts.1
          ] refl
    ] refl
  where
    not_negative : (sign : ℕ) (signed : Bool) (number : ℕ) (value : ℤ) → (sign ≡ plus_half) ⊎ (sign ≡ unsigned_half) → ◌≡◌ {A = Option ℤ} (Some (pos number)) (Some value) → (unsigned_abs value ≡ number) × Tells sign signed value
    not_negative sign signed number value is h =
        let same : pos number ≡ value = same_Some (pos number) value h in
        (sym (ap unsigned_abs same), inl (is, omega (arith, ints, same)))

    negated : (number : ℕ) → (unsigned_abs (neg_ℤ (pos number)) ≡ number) × (neg_ℤ (pos number) ≤ℤ pos 0)
    negated zero = (refl, omega (arith, ints))
    negated (suc number) = (refl, omega (arith, ints))

    negative : (sign : ℕ) (signed : Bool) (number : ℕ) (value : ℤ) → sign ≡ minus_half → signed ≡ true → neg_ℤ (pos number) ≡ value → (unsigned_abs value ≡ number) × Tells sign signed value
    negative sign signed number value is on same =
        let there = negated number in (
          sym (ap unsigned_abs same) ∙ there.0,
          inr (is, on, subst (λ (v : ℤ). v ≤ℤ pos 0) same there.1),
        )

same_positive : (value : ℤ) → pos 0 ≤ℤ value → pos (unsigned_abs value) ≡ value
same_positive (pos n) h = refl
same_positive (negsuc n) h = absurd (omega (arith, ints))

same_negative : (value : ℤ) → value ≤ℤ pos 0 → neg_ℤ (pos (unsigned_abs value)) ≡ value
same_negative (pos zero) h = refl
same_negative (pos (suc n)) h = absurd (omega (arith, ints))
same_negative (negsuc n) h = refl

told-value : (sign : ℕ) (signed : Bool) (value : ℤ) → Tells sign signed value → value_by_sign sign signed (unsigned_abs value) ≡ Some value
told-value sign signed value (inl (inl is, h)) =
    ap (λ (s : ℕ). value_by_sign s signed (unsigned_abs value)) is ∙ ap Some (same_positive value h)
told-value sign signed value (inl (inr is, h)) =
    ap (λ (s : ℕ). value_by_sign s signed (unsigned_abs value)) is ∙ ap Some (same_positive value h)
told-value sign signed value (inr (is, on, h)) =
    ap₂ (λ (s : ℕ) (t : Bool). value_by_sign s t (unsigned_abs value)) is on ∙ ap Some (same_negative value h)

-- ---- the half bytes of packed items

zeros-from-test : (xs : List ℕ) → list_all (λ half. half == 0) xs ≡ true → xs ≡ replicate (length xs) 0
zeros-from-test [] e = refl
zeros-from-test (x ∷ xs) e =
    let both = both-true (x == 0) (list_all (λ half. half == 0) xs) e in
    ap₂ ◌∷◌ (eqb-true x 0 both.0) (zeros-from-test xs both.1)

digits-from-test : (xs : List ℕ) → list_all (λ digit. nat_le digit 9) xs ≡ true → AllBelowBase 10 xs
digits-from-test [] e = tt
digits-from-test (x ∷ xs) e =
    let both = both-true (nat_le x 9) (list_all (λ digit. nat_le digit 9) xs) e in
    let small : x ≤ 9 = leb-true x 9 both.0 in
    (omega arith, digits-from-test xs both.1)

if_some : (t : Bool) (o : Option ℕ) (n : ℕ) → (if t then o else None) ≡ Some n → (t ≡ true) × (o ≡ Some n)
if_some true o n e = (refl, e)
if_some false o n e = cc

length-number_halves : (bytes : List ℕ) (digits : ℕ) → length bytes ≡ packed_size digits → length (number_halves bytes) ≡ fill_count digits + digits
length-number_halves bytes digits size =
    let whole : length (halves_of bytes) ≡ length bytes * 2 = length-halves bytes in
    let below : digits % 2 < 2 = mod-lt digits (lit< tt) in
    length-take-le (length (halves_of bytes) - 1) (halves_of bytes) (omega arith) ∙ omega (arith, whole, size, below)

number-spelled : (bytes : List ℕ) (digits number : ℕ) → length bytes ≡ packed_size digits → packed_number bytes digits ≡ Some number → (number < 10 ^ digits) × (halves_of bytes ≡ replicate (fill_count digits) 0 ++ low_digits 10 digits number ++ last_half bytes ∷ [])
number-spelled bytes digits number size e =
    let hs : List ℕ = number_halves bytes in
    let fill : List ℕ = take (fill_count digits) hs in
    let places : List ℕ = drop (fill_count digits) hs in
    let count = length-number_halves bytes digits size in
    let parts = if_some (list_all (λ half. half == 0) fill) (decimal_number places) number e in
    let read = cond_some (list_all (λ digit. nat_le digit 9) places) (number_from_digits 10 places) number parts.1 in
    let small : AllBelowBase 10 places = digits-from-test places read.0 in
    let fill_size : length fill ≡ fill_count digits = length-take-le (fill_count digits) hs (omega (arith, count)) in
    let places_size : length places ≡ digits = length-drop (fill_count digits) hs ∙ omega (arith, count) in
    let fill_is : fill ≡ replicate (fill_count digits) 0 =
    zeros-from-test fill parts.0 ∙ ap (λ (n : ℕ). replicate n 0) fill_size in
    let places_are : places ≡ low_digits 10 digits number =
    sym (low_digits-number_after 10 0 places small) ∙ ap₂ (low_digits 10) places_size read.1 in
    let below : number_from_digits 10 places < 10 ^ length places = number_lt 10 places small in (
      subst (λ (n : ℕ). number < 10 ^ n) places_size (subst (λ (n : ℕ). n < 10 ^ length places) read.1 below),
      halves-whole bytes (omega (arith, size))
          ∙ ap (λ (xs : List ℕ). xs ++ last_half bytes ∷ []) (sym (take-append-drop (fill_count digits) hs) ∙ ap₂ (λ (xs ys : List ℕ). xs ++ ys) fill_is places_are),
    )

pub packed-read : (bytes : List ℕ) (digits : ℕ) (signed : Bool) (value : ℤ) → length bytes ≡ packed_size digits → packed_value bytes digits signed ≡ Some value → IsPacked bytes digits signed value
packed-read bytes digits signed value size e =
    option_and_then_some (value_by_sign (last_half bytes) signed) (packed_number bytes digits) value e
    (λ number is_number is_value.
    let spelled = number-spelled bytes digits number size is_number in
    let told = sign-tells (last_half bytes) signed number value is_value in
    record {
      short = subst (λ (n : ℕ). n < 10 ^ digits) (sym told.0) spelled.0;
      sign = told.1;
      halves = spelled.1 ∙ ap (λ (n : ℕ). replicate (fill_count digits) 0 ++ low_digits 10 digits n ++ last_half bytes ∷ []) (sym told.0);
    })

-- what is read has at most the item's digits
pub packed-short : (bytes : List ℕ) (digits : ℕ) (signed : Bool) (found : Option ℤ) → length bytes ≡ packed_size digits → found ≡ packed_value bytes digits signed → IfSome found (λ (value : ℤ). unsigned_abs value < 10 ^ digits)
packed-short bytes digits signed None size e = tt
packed-short bytes digits signed (Some value) size e = (packed-read bytes digits signed value size (sym e)).short

pub packed-rule : (bytes : List ℕ) (digits : ℕ) (signed : Bool) (value : ℤ) → AreBytes (packed_size digits) bytes → (packed_value bytes digits signed ≡ Some value → IsPacked bytes digits signed value) × (IsPacked bytes digits signed value → packed_value bytes digits signed ≡ Some value)
packed-rule bytes digits signed value are = (
  packed-read bytes digits signed value are.count,
  λ h.
      packed-spelled bytes digits signed (last_half bytes) (unsigned_abs value) (omega (arith, are.count)) h.short h.halves
      ∙ told-value (last_half bytes) signed value h.sign,
)

-- ---- one spelling

pub binary-apart : (one other : ℤ) (digits : ℕ) (signed : Bool) → digits ≤ 18 → IsHeld one digits signed → IsHeld other digits signed → binary_bytes one digits ≡ binary_bytes other digits → one ≡ other
binary-apart one other digits signed few held there same =
    same_Some one other (sym (binary-back one digits signed few held) ∙ ap (λ (xs : List ℕ). binary_value xs digits signed) same ∙ binary-back other digits signed few there)

pub packed-apart : (one other : ℤ) (digits : ℕ) (signed : Bool) → IsHeld one digits signed → IsHeld other digits signed → packed_bytes one digits signed ≡ packed_bytes other digits signed → one ≡ other
packed-apart one other digits signed held there same =
    same_Some one other (sym (packed-back one digits signed held) ∙ ap (λ (xs : List ℕ). packed_value xs digits signed) same ∙ packed-back other digits signed there)

pub binary-one : (one other : List ℕ) (digits : ℕ) (signed : Bool) (value : ℤ) → AreBytes (binary_size digits) one → AreBytes (binary_size digits) other → binary_value one digits signed ≡ Some value → binary_value other digits signed ≡ Some value → one ≡ other
binary-one one other digits signed value are there e f =
    let first = binary-read one digits signed value are.count (below-bytes (binary_size digits) one are) e in
    let second = binary-read other digits signed value there.count (below-bytes (binary_size digits) other there) f in
    first.1 ∙ sym second.1

pub packed-one : (one other : List ℕ) (digits : ℕ) (signed : Bool) (value : ℤ) → AreBytes (packed_size digits) one → AreBytes (packed_size digits) other → packed_value one digits signed ≡ Some value → packed_value other digits signed ≡ Some value → SameButSign one other signed value
packed-one one other digits signed value are there e f =
    let first = packed-read one digits signed value are.count e in
    let second = packed-read other digits signed value there.count f in
    let front : List ℕ = replicate (fill_count digits) 0 ++ low_digits 10 digits (unsigned_abs value) in
    record {
      number = number_halves-at one front (last_half one) first.halves ∙ sym (number_halves-at other front (last_half other) second.halves);
      one_sign = first.sign;
      other_sign = second.sign;
    }
