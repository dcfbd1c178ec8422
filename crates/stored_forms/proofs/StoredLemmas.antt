-- What arithmetic stores in a field is what an item of its digits holds.
use Rattle.std.proofs.Common.{◌≡◌, ℕ, zero, suc, ◌%◌, ◌^◌, ◌<◌, Bool, true, false, ℤ, pos, negsuc, unsigned_abs, arith, refl, sym, subst, mod-lt, lit<}
use Rattle.std.proofs.lemmas.Int.{ints}
use Rattle.cob_num.specs.declared.number.Dec.{Dec}
use Rattle.cob_num.specs.Storing.{stored_of, whole_units, with_sign}
use Rattle.stored_forms.specs.Item.{IsHeld}
use Rattle.stored_forms.proofs.PlaceLemmas.{power_positive}

size-with_sign : (value : ℤ) (size : ℕ) → unsigned_abs (with_sign value size) ≡ size
size-with_sign (pos n) size = refl
size-with_sign (negsuc n) zero = refl
size-with_sign (negsuc n) (suc size) = refl

stored-short : (number : Dec) (digits scale : ℕ) (rounded : Bool) → unsigned_abs (stored_of number digits scale rounded).value < 10 ^ digits
stored-short number digits scale rounded =
    let low : ℕ = whole_units number scale rounded % 10 ^ digits in
    let short : low < 10 ^ digits = mod-lt (whole_units number scale rounded) (power_positive 10 digits (lit< tt)) in
    subst (λ (n : ℕ). n < 10 ^ digits) (sym (size-with_sign number.value low)) short

pub stored-held : (number : Dec) (digits scale : ℕ) (rounded : Bool) → IsHeld (stored_of number digits scale rounded).value digits true
stored-held number digits scale rounded = record {
  short = stored-short number digits scale rounded;
  sign = λ e. cc;
}

pub stored-size-held : (number : Dec) (digits scale : ℕ) (rounded : Bool) → IsHeld (pos (unsigned_abs (stored_of number digits scale rounded).value)) digits false
stored-size-held number digits scale rounded = record {
  short = stored-short number digits scale rounded;
  sign = λ e. omega (arith, ints);
}
