use Rattle.std.proofs.Common.{◌≡◌, length, sym, subst, arith}
use Rattle.edit_fields.specs.declared.shape.Shape.{Shape}
use Rattle.edit_fields.specs.Field.{IsNumber}
use Rattle.edit_fields.proofs.MaskLemmas.{mask_number, shape_ends, shape_on}
use Rattle.edit_fields.proofs.field.shape_of.Goals as goal

pub loop-place-preserved : goal.loop-place-preserved
loop-place-preserved c = shape_on c.args.mask.now c.loop-place.place c.loop-place.shape c.to_ascii_uppercase.result _ _ c.loop-place-test.true c.to_ascii_uppercase.ensures.value c.moved-shape.ensures c.loop-place.invariant

pub returns-clause-shape : goal.returns-clause-shape
returns-clause-shape c =
    let past : c.loop-place.place ≡ length c.args.mask.now = omega arith in
    shape_ends c.args.mask.now c.loop-place.place c.loop-place.shape _ past c.loop-place.invariant

pub returns-clause-number : goal.returns-clause-number
returns-clause-number c =
    let past : c.loop-place.place ≡ length c.args.mask.now = omega arith in
    λ is. subst (λ (s : Shape). IsNumber s.whole s.part)
    (sym (shape_ends c.args.mask.now c.loop-place.place c.loop-place.shape _ past c.loop-place.invariant))
    (mask_number c.args.mask.now is)
