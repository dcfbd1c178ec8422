use Rattle.std.proofs.Common.{◌≡◌, length, arith}
use Rattle.edit_fields.proofs.EditedLemmas.{size_ends, size_puts, size_skips}
use Rattle.edit_fields.proofs.edited.mask_size.Goals as goal

pub loop-place-preserved-then-symbol-eq86 : goal.loop-place-preserved-then-symbol-eq86
loop-place-preserved-then-symbol-eq86 c =
    let size = size_skips c.args.mask.now c.loop-place.place c.to_ascii_uppercase-symbol.result c.loop-place-test.true c.to_ascii_uppercase-symbol.ensures.value c.if-symbol-eq86.true in
    record { within = omega arith; same = omega (arith, size, c.loop-place.invariant.same) }

pub loop-place-preserved : goal.loop-place-preserved
loop-place-preserved c =
    let size = size_puts c.args.mask.now c.loop-place.place c.to_ascii_uppercase-symbol.result c.loop-place-test.true c.to_ascii_uppercase-symbol.ensures.value c.if-symbol-eq86.false in
    record { within = omega arith; same = omega (arith, size, c.loop-place.invariant.same) }

pub returns : goal.returns
returns c =
    let past : c.loop-place.place ≡ length c.args.mask.now = omega arith in
    size_ends c.args.mask.now c.loop-place.place c.loop-place.size past c.loop-place.invariant.same
