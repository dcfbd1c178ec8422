use Rattle.std.proofs.Common.{◌≡◌, ◌+◌, length, sym, ap, ◌∙◌, arith}
use Rattle.edit_fields.specs.Reading.{end_fault}
use Rattle.edit_fields.proofs.ReadingLemmas.{goes_on, stops, ends}
use Rattle.edit_fields.proofs.mask_fault.Goals as goal

pub returns-in-Err : goal.returns-in-Err
returns-in-Err c =
    sym (goes_on c.args.text.now c.loop-before.before c.loop-before.reading c.to_ascii_uppercase.result _ _ c.loop-before-test.true c.to_ascii_uppercase.ensures.value c.in-Err.ensures c.loop-before.invariant
    ∙ stops (c.loop-before.before + 1) c.in-Err.fault _)

pub loop-before-preserved : goal.loop-before-preserved
loop-before-preserved c = goes_on c.args.text.now c.loop-before.before c.loop-before.reading c.to_ascii_uppercase.result _ _ c.loop-before-test.true c.to_ascii_uppercase.ensures.value c.in-Ok.ensures c.loop-before.invariant

pub returns : goal.returns
returns c =
    let at_end : c.loop-before.before ≡ length c.args.text.now = omega arith in
    c.end_fault.ensures ∙ ap (λ last. end_fault last c.loop-before.reading) c.last_position.ensures
    ∙ sym (ends c.args.text.now c.loop-before.before c.loop-before.reading _ at_end c.loop-before.invariant)
