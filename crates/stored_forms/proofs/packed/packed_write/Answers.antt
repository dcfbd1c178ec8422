use Rattle.std.proofs.Common.{◌≡◌, ℕ, ◌+◌, ◌-◌, ◌*◌, ◌/◌, ◌%◌, ◌<◌, List, [], ◌∷◌, ◌++◌, length, map, take, unsigned_abs, arith, sym, ap, ap₂, ◌∙◌, to_z-of_z, length-take-le}
use Rattle.std.proofs.lemmas.List.{length-map}
use Rattle.stored_forms.specs.Places.{low_digits}
use Rattle.stored_forms.specs.Packed.{pair_byte, sign_half}
use Rattle.stored_forms.proofs.PlaceLemmas.{length-low_digits}
use Rattle.stored_forms.proofs.PackedLemmas.{packed_bytes-are, put-last}
use Rattle.stored_forms.proofs.packed.packed_write.Goals as goal

pub returns : goal.returns
returns c =
    let into : List ℕ = c.args.into.now in
    let value = c.args.value in
    let read = to_z-of_z c.ranges.value in
    let number : c.unsigned_abs-number.result ≡ unsigned_abs value = c.unsigned_abs-number.ensures.value ∙ ap unsigned_abs read in
    let sign : c.sign_half.result ≡ sign_half value c.args.signed = c.sign_half.ensures ∙ ap (λ z. sign_half z c.args.signed) read in
    let some : 0 < length into = omega (arith, c.requires.size) in
    let count : length (take (length into - 1) into) ≡ c.args.digits / 2 =
    length-take-le (length into - 1) into (omega arith) ∙ omega (arith, c.requires.size) in
    let front : c.put_pairs.new.into ≡ map pair_byte (low_digits 100 (c.args.digits / 2) (unsigned_abs value / 10)) =
    c.put_pairs.ensures ∙ ap₂ (λ (n m : ℕ). map pair_byte (low_digits 100 n (m / 10))) count number in
    let size : length c.put_pairs.new.into ≡ length into - 1 =
    ap length front
    ∙ length-map (low_digits 100 (c.args.digits / 2) (unsigned_abs value / 10)) pair_byte
    ∙ length-low_digits 100 (c.args.digits / 2) (unsigned_abs value / 10)
    ∙ omega (arith, c.requires.size) in
    put-last c.put_pairs.new.into into (c.unsigned_abs-number.result % 10 * 16 + c.sign_half.result) some size
    ∙ ap₂ (λ (xs : List ℕ) (byte : ℕ). xs ++ byte ∷ []) front (ap₂ (λ (n s : ℕ). n % 10 * 16 + s) number sign)
    ∙ sym (packed_bytes-are value c.args.digits c.args.signed c.requires.value.short)
