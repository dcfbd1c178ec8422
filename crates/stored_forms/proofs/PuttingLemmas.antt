-- A loop that puts the low digits of a number into a list, the last place first.
use Rattle.std.proofs.Common.{◌≡◌, ℕ, suc, ◌+◌, ◌/◌, ◌%◌, ◌^◌, ◌<◌, List, ◌∷◌, length, map, set, drop, arith, sym, ap, ap₂, ◌∙◌, le_refl, pow-suc}
use Rattle.std.proofs.Math.Nat.{div-div-eq-div-mul, div-one, pow-zero}
use Rattle.std.proofs.lemmas.List.{drop_all, drop-set, length-set}
use Rattle.stored_forms.specs.Places.{low_digits}

-- from a place on the digits are put, each as f gives it, and what is left of the number
pub record IsPutFrom (f : ℕ → ℕ) (base number : ℕ) (into : List ℕ) (place left : ℕ) : Type 0 where
  pub count : ℕ
  pub size : length into ≡ place + count
  pub rest : left ≡ number / base ^ count
  pub done : drop place into ≡ map f (low_digits base count number)

pub put-none : (f : ℕ → ℕ) (base number : ℕ) (into : List ℕ) → IsPutFrom f base number into (length into) number
put-none f base number into = record {
  count = 0;
  size = omega arith;
  rest = sym (ap (λ (x : ℕ). number / x) (pow-zero base) ∙ div-one number);
  done = drop_all (length into) into (le_refl (length into));
}

pub put-more : (f : ℕ → ℕ) (base number : ℕ) (into : List ℕ) (place index left : ℕ) → place ≡ suc index → index < length into → IsPutFrom f base number into place left → IsPutFrom f base number (set into index (f (left % base))) index (left / base)
put-more f base number into place index left up less so_far = record {
  count = suc so_far.count;
  size = omega (arith, length-set into index (f (left % base)), so_far.size);
  rest =
      ap (λ (x : ℕ). x / base) so_far.rest
      ∙ div-div-eq-div-mul number (base ^ so_far.count) base
      ∙ ap (λ (x : ℕ). number / x) (sym (pow-suc base so_far.count));
  done =
      let next : index + 1 ≡ place = omega arith in
      drop-set into index (f (left % base)) less
      ∙ ap₂ ◌∷◌ (ap (λ (x : ℕ). f (x % base)) so_far.rest) (ap (λ (n : ℕ). drop n into) next ∙ so_far.done);
}

pub put-all : (f : ℕ → ℕ) (base number : ℕ) (into : List ℕ) (place left : ℕ) → place ≡ 0 → IsPutFrom f base number into place left → into ≡ map f (low_digits base (length into) number)
put-all f base number into place left e so_far =
    let count : so_far.count ≡ length into = omega (arith, so_far.size) in
    ap (λ (n : ℕ). drop n into) (sym e)
    ∙ so_far.done
    ∙ ap (λ (n : ℕ). map f (low_digits base n number)) count
