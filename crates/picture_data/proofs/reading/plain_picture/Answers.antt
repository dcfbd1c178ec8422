use Rattle.std.proofs.Common.{◌≡◌, ◌+◌, length, Err, sym, ap, ◌∙◌, arith}
use Rattle.picture_data.specs.Fault.{fault_at}
use Rattle.picture_data.proofs.ReadingLemmas.{goes_on, stops, ends}
use Rattle.picture_data.proofs.reading.plain_picture.Goals as goal

pub returns-in-Err : goal.returns-in-Err
returns-in-Err c =
    ap Err c.at.ensures
    ∙ sym (goes_on c.args.text.now c.loop-before.before c.loop-before.reading c.to_ascii_uppercase.result _ _ c.loop-before-test.true c.to_ascii_uppercase.ensures.value c.in-Err.ensures c.loop-before.invariant
    ∙ stops (c.loop-before.before + 1) c.in-Err.flaw _)

pub loop-before-preserved : goal.loop-before-preserved
loop-before-preserved c = goes_on c.args.text.now c.loop-before.before c.loop-before.reading c.to_ascii_uppercase.result _ _ c.loop-before-test.true c.to_ascii_uppercase.ensures.value c.in-Ok.ensures c.loop-before.invariant

pub returns-in-Ok-finish : goal.returns-in-Ok-finish
returns-in-Ok-finish c =
    let at_end : c.loop-before.before ≡ length c.args.text.now = omega arith in
    sym (ends c.args.text.now c.loop-before.before c.loop-before.reading _ _ at_end c.in-Ok-finish.ensures c.loop-before.invariant)

pub returns-in-Err-finish : goal.returns-in-Err-finish
returns-in-Err-finish c =
    let at_end : c.loop-before.before ≡ length c.args.text.now = omega arith in
    ap Err (c.at-in-Err-finish.ensures ∙ ap (fault_at c.in-Err-finish.flaw) c.last_position.ensures)
    ∙ sym (ends c.args.text.now c.loop-before.before c.loop-before.reading _ _ at_end c.in-Err-finish.ensures c.loop-before.invariant)
