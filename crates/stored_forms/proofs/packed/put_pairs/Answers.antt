use Rattle.std.proofs.Common.{◌≡◌, ◌<◌, ◌-◌, ◌/◌, ℕ, suc, length, map, set, arith, sym, ap, ◌∙◌, subst}
use Rattle.stored_forms.specs.Places.{low_digits}
use Rattle.stored_forms.specs.Packed.{pair_byte}
use Rattle.stored_forms.proofs.PuttingLemmas.{IsPutFrom, put-more, put-all}
use Rattle.stored_forms.proofs.packed.put_pairs.Goals as goal

pub loop-place-preserved : goal.loop-place-preserved
loop-place-preserved c =
    let index : ℕ = c.loop-place.place - 1 in
    let up : c.loop-place.place ≡ suc index = omega (arith, c.loop-place-test.true) in
    let less : index < length c.loop-place.into = omega (arith, c.loop-place-test.true, c.loop-place.invariant.size) in
    subst (λ (byte : ℕ). IsPutFrom pair_byte 100 c.args.number (set c.loop-place.into index byte) index (c.loop-place.rest / 100)) (sym c.pair_byte.ensures)
    (put-more pair_byte 100 c.args.number c.loop-place.into c.loop-place.place index c.loop-place.rest up less c.loop-place.invariant)

pub returns : goal.returns
returns c =
    let kept : length c.loop-place.into ≡ length c.args.into.now = omega arith in
    put-all pair_byte 100 c.args.number c.loop-place.into c.loop-place.place c.loop-place.rest (omega (arith, c.loop-place-test.false)) c.loop-place.invariant
    ∙ ap (λ (n : ℕ). map pair_byte (low_digits 100 n c.args.number)) kept
