use Rattle.std.proofs.Common.{◌≡◌, ◌<◌, ◌-◌, ℕ, suc, length, arith, ap, ◌∙◌, map-id}
use Rattle.stored_forms.specs.Places.{low_digits}
use Rattle.stored_forms.proofs.PuttingLemmas.{put-more, put-all}
use Rattle.stored_forms.proofs.binary.put_bytes.Goals as goal

pub loop-place-preserved : goal.loop-place-preserved
loop-place-preserved c =
    let index : ℕ = c.loop-place.place - 1 in
    let up : c.loop-place.place ≡ suc index = omega (arith, c.loop-place-test.true) in
    let less : index < length c.loop-place.into = omega (arith, c.loop-place-test.true, c.loop-place.invariant.size) in
    put-more (λ (digit : ℕ). digit) 256 c.args.number c.loop-place.into c.loop-place.place index c.loop-place.rest up less c.loop-place.invariant

pub returns : goal.returns
returns c =
    let kept : length c.loop-place.into ≡ length c.args.into.now = omega arith in
    put-all (λ (digit : ℕ). digit) 256 c.args.number c.loop-place.into c.loop-place.place c.loop-place.rest (omega (arith, c.loop-place-test.false)) c.loop-place.invariant
    ∙ map-id (low_digits 256 (length c.loop-place.into) c.args.number)
    ∙ ap (λ (n : ℕ). low_digits 256 n c.args.number) kept
