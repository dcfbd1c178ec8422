-- Two's complement, and bytes as its digits.
use Rattle.std.proofs.Common.{◌≡◌, ℕ, suc, ◌+◌, ◌-◌, ◌*◌, ◌^◌, ◌<◌, ◌≤◌, Bool, true, false, List, length, drop, get_or, Some, None, ℤ, pos, negsuc, ◌-ℤ◌, ◌≤ℤ◌, ◌<ℤ◌, unsigned_abs, nat_lt, if◌then◌else◌, arith, refl, sym, ap, ap₂, ◌∙◌, lit<, lt-ltb}
use Rattle.std.proofs.Math.Nat.{pow-le-pow_right}
use Rattle.std.proofs.lemmas.Bool.{le-ltb}
use Rattle.std.proofs.lemmas.Grind.{pow_more}
use Rattle.std.proofs.lemmas.Int.{ints}
use Rattle.std.proofs.lemmas.Int.Digits.{number_lt}
use Rattle.std.proofs.lemmas.List.{drop_more, drop_all}
use Rattle.std.proofs.lemmas.Option.{cond_some}
use Rattle.std.specs.Int.Digits.{AllBelowBase, number_from_digits, number_from_digits_after}
use Rattle.stored_forms.specs.Item.{IsHeld, is_held}
use Rattle.stored_forms.specs.Places.{low_digits}
use Rattle.stored_forms.specs.Binary.{binary_size, binary_bytes, binary_value, signed_number, twos_complement}
use Rattle.stored_forms.proofs.ItemLemmas.{held-yes, held-from-test, room}
use Rattle.stored_forms.proofs.PlaceLemmas.{length-low_digits, low_digits-number_after, number-low_digits}

-- ---- bytes read one by one

-- the bytes before an index are read into the number
pub record IsReadTo (bytes : List ℕ) (index number : ℕ) : Type 0 where
  pub value : number_from_digits_after 256 number (drop index bytes) ≡ number_from_digits 256 bytes
  pub below : number < 256 ^ index

pub read-none : (bytes : List ℕ) → IsReadTo bytes 0 0
read-none bytes = record { value = refl; below = lit< tt }

pub read-more : (bytes : List ℕ) (index number : ℕ) → index < length bytes → get_or bytes index 0 < 256 → IsReadTo bytes index number → IsReadTo bytes (index + 1) (number * 256 + get_or bytes index 0)
read-more bytes index number less byte so_far = record {
  value = sym (ap (number_from_digits_after 256 number) (drop_more bytes index 0 less)) ∙ so_far.value;
  below = omega (arith, pow_more 256 index, so_far.below);
}

pub read-all : (bytes : List ℕ) (index number : ℕ) → length bytes ≤ index → IsReadTo bytes index number → number ≡ number_from_digits 256 bytes
read-all bytes index number all so_far =
    sym (ap (number_from_digits_after 256 number) (drop_all index bytes all)) ∙ so_far.value

-- a number of fewer than 8 bytes has room for one more
pub read-fits : (index number byte : ℕ) → index < 8 → number < 256 ^ index → byte < 256 → number * 256 + byte < 18446744073709551616
read-fits index number byte few below small =
    let at_most : index ≤ 7 = omega arith in
    let power : 256 ^ index ≤ 256 ^ 7 = pow-le-pow_right (lit< tt) at_most in
    omega (arith, power)

-- ---- two's complement

pub twos-below : (size : ℕ) (value : ℤ) → 2 * unsigned_abs value < 256 ^ size → twos_complement size value < 256 ^ size
twos-below size (pos n) h = omega arith
twos-below size (negsuc n) h = omega arith

pub twos-positive : (size : ℕ) (value : ℤ) → pos 0 ≤ℤ value → unsigned_abs value ≡ twos_complement size value
twos-positive size (pos n) h = refl
twos-positive size (negsuc n) h = absurd (omega (arith, ints))

pub twos-negative : (size : ℕ) (value : ℤ) → value <ℤ pos 0 → 256 ^ size - unsigned_abs value ≡ twos_complement size value
twos-negative size (pos n) h = absurd (omega (arith, ints))
twos-negative size (negsuc n) h = refl

under : (count n : ℕ) → suc n ≤ count → pos (count - suc n) -ℤ pos count ≡ negsuc n
under count n h = omega (arith, ints)

over : (count number : ℕ) → number < count → pos number -ℤ pos count ≡ negsuc (count - suc number)
over count number h = omega (arith, ints)

-- a value of which twice is below the count is the one of its two's complement
pub signed_number-twos : (size : ℕ) (value : ℤ) → 2 * unsigned_abs value < 256 ^ size → signed_number size (twos_complement size value) ≡ value
signed_number-twos size (pos n) h =
    ap (λ (t : Bool). if t then pos n else pos n -ℤ pos (256 ^ size)) (lt-ltb (2 * n) (256 ^ size) h)
signed_number-twos size (negsuc n) h =
    let number : ℕ = 256 ^ size - suc n in
    ap (λ (t : Bool). if t then pos number else pos number -ℤ pos (256 ^ size)) (le-ltb (2 * number) (256 ^ size) (omega arith))
    ∙ under (256 ^ size) n (omega arith)

pub twos-signed_number : (size number : ℕ) → number < 256 ^ size → twos_complement size (signed_number size number) ≡ number
twos-signed_number size number h =
    elim (nat_lt (2 * number) (256 ^ size)) as (λ (t : Bool). twos_complement size (if t then pos number else pos number -ℤ pos (256 ^ size)) ≡ number) [
      | true ↦ refl
      | false ↦ ap (twos_complement size) (over (256 ^ size) number h) ∙ omega arith
    ]

-- ---- items

pub held-room : (value : ℤ) (digits : ℕ) (signed : Bool) → digits ≤ 18 → IsHeld value digits signed → 2 * unsigned_abs value < 256 ^ binary_size digits
held-room value digits signed few held = omega (arith, room digits few, held.short)

pub length-binary_bytes : (value : ℤ) (digits : ℕ) → length (binary_bytes value digits) ≡ binary_size digits
length-binary_bytes value digits = length-low_digits 256 (binary_size digits) (twos_complement (binary_size digits) value)

pub binary-back : (value : ℤ) (digits : ℕ) (signed : Bool) → digits ≤ 18 → IsHeld value digits signed → binary_value (binary_bytes value digits) digits signed ≡ Some value
binary-back value digits signed few held =
    let size : ℕ = binary_size digits in
    let fits : 2 * unsigned_abs value < 256 ^ size = held-room value digits signed few held in
    let number : number_from_digits 256 (binary_bytes value digits) ≡ twos_complement size value =
    number-low_digits 256 size (twos_complement size value) (lit< tt) (twos-below size value fits) in
    let back : signed_number (length (binary_bytes value digits)) (number_from_digits 256 (binary_bytes value digits)) ≡ value =
    ap₂ signed_number (length-binary_bytes value digits) number ∙ signed_number-twos size value fits in
    ap (λ (v : ℤ). if is_held v digits signed then Some v else None) back
    ∙ ap (λ (t : Bool). if t then Some value else None) (held-yes value digits signed held)

pub binary-read : (bytes : List ℕ) (digits : ℕ) (signed : Bool) (value : ℤ) → length bytes ≡ binary_size digits → AllBelowBase 256 bytes → binary_value bytes digits signed ≡ Some value → IsHeld value digits signed × (bytes ≡ binary_bytes value digits)
binary-read bytes digits signed value size below e =
    let number : ℕ = number_from_digits 256 bytes in
    let read : ℤ = signed_number (length bytes) number in
    let parts = cond_some (is_held read digits signed) read value e in
    let held : is_held value digits signed ≡ true = sym (ap (λ (v : ℤ). is_held v digits signed) parts.1) ∙ parts.0 in
    let twos : number ≡ twos_complement (length bytes) value =
    sym (twos-signed_number (length bytes) number (number_lt 256 bytes below)) ∙ ap (twos_complement (length bytes)) parts.1 in (
      held-from-test value digits signed held,
      sym (low_digits-number_after 256 0 bytes below)
          ∙ ap (low_digits 256 (length bytes)) twos
          ∙ ap (λ (n : ℕ). low_digits 256 n (twos_complement n value)) size,
    )
