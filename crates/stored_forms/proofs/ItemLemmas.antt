-- The test of what an item holds, and how many digits fit the sizes.
use Rattle.std.proofs.Common.{◌≡◌, ℕ, ◌*◌, ◌^◌, ◌<◌, ◌≤◌, Bool, true, false, ◌&&◌, ◌||◌, ℤ, pos, negsuc, ◌≤ℤ◌, unsigned_abs, nat_lt, nat_le, if◌then◌else◌, arith, refl, ap₂, lit<, lt-ltb, ltb-true, le-leb, leb-true}
use Rattle.std.specs.Int.Signed.{le_z}
use Rattle.std.proofs.Math.Nat.{pow-le-pow_right}
use Rattle.std.proofs.lemmas.Int.{ints}
use Rattle.stored_forms.specs.Item.{IsHeld, is_held}
use Rattle.stored_forms.specs.Binary.{binary_size}

pub both-true : (p q : Bool) → (p && q) ≡ true → (p ≡ true) × (q ≡ true)
both-true true q e = (refl, e)
both-true false q e = cc

le_test : (value : ℤ) → pos 0 ≤ℤ value → le_z (pos 0) value ≡ true
le_test (pos n) h = le-leb 0 n (omega arith)
le_test (negsuc n) h = absurd (omega (arith, ints))

le_from_test : (value : ℤ) → le_z (pos 0) value ≡ true → pos 0 ≤ℤ value
le_from_test value e = omega (arith, ints)

sign_test : (value : ℤ) (signed : Bool) → (signed ≡ false → pos 0 ≤ℤ value) → (signed || le_z (pos 0) value) ≡ true
sign_test value true h = refl
sign_test value false h = le_test value (h refl)

sign_from_test : (value : ℤ) (signed : Bool) → (signed || le_z (pos 0) value) ≡ true → signed ≡ false → pos 0 ≤ℤ value
sign_from_test value true e f = cc
sign_from_test value false e f = le_from_test value e

pub held-yes : (value : ℤ) (digits : ℕ) (signed : Bool) → IsHeld value digits signed → is_held value digits signed ≡ true
held-yes value digits signed h =
    ap₂ (λ (p q : Bool). p && q) (lt-ltb (unsigned_abs value) (10 ^ digits) h.short) (sign_test value signed h.sign)

pub held-from-test : (value : ℤ) (digits : ℕ) (signed : Bool) → is_held value digits signed ≡ true → IsHeld value digits signed
held-from-test value digits signed e =
    let both = both-true (nat_lt (unsigned_abs value) (10 ^ digits)) (signed || le_z (pos 0) value) e in
    record {
      short = ltb-true (unsigned_abs value) (10 ^ digits) both.0;
      sign = sign_from_test value signed both.1;
    }

-- ---- the sizes of binary items

pub size_small : (digits : ℕ) → binary_size digits ≤ 8
size_small digits =
    elim (nat_le digits 4) as (λ (t : Bool). (if t then 2 else (if nat_le digits 9 then 4 else 8)) ≤ 8) [
      | true ↦ omega arith
      | false ↦ elim (nat_le digits 9) as (λ (t : Bool). (if t then 4 else 8) ≤ 8) [ true ↦ omega arith | false ↦ omega arith ]
    ]

power_up_to : (digits limit : ℕ) → digits ≤ limit → 10 ^ digits ≤ 10 ^ limit
power_up_to digits limit h = pow-le-pow_right (lit< tt) h

-- twice as many values as so many digits have are fewer than the bytes can count
pub room : (digits : ℕ) → digits ≤ 18 → 2 * 10 ^ digits < 256 ^ binary_size digits
room digits h =
    elim (nat_le digits 4) as (λ (t : Bool). nat_le digits 4 ≡ t → 2 * 10 ^ digits < 256 ^ (if t then 2 else (if nat_le digits 9 then 4 else 8))) [
      | true ↦ λ e. let few : 10 ^ digits ≤ 10 ^ 4 = power_up_to digits 4 (leb-true _ _ e) in omega (arith, few)
      | false ↦ λ e.
          elim (nat_le digits 9) as (λ (t : Bool). nat_le digits 9 ≡ t → 2 * 10 ^ digits < 256 ^ (if t then 4 else 8)) [
            | true ↦ λ f. let few : 10 ^ digits ≤ 10 ^ 9 = power_up_to digits 9 (leb-true _ _ f) in omega (arith, few)
            | false ↦ λ f. let few : 10 ^ digits ≤ 10 ^ 18 = power_up_to digits 18 h in omega (arith, few)
          ] refl
    ] refl

pub count_small : (size : ℕ) → size ≤ 8 → 256 ^ size ≤ 18446744073709551616
count_small size h = let p : 256 ^ size ≤ 256 ^ 8 = pow-le-pow_right (lit< tt) h in omega (arith, p)
