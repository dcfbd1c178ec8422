use Rattle.std.proofs.Common.{◌≡◌, ◌+◌, length, drop, sym, ap, ◌∙◌, arith}
use Rattle.picture_data.specs.Edited.{is_edited, is_edited_from}
use Rattle.picture_data.proofs.EditedLemmas.{edited_ends, edited_here, edited_on}
use Rattle.picture_data.proofs.edited.is_edited.Goals as goal

pub returns-then-is_edit_byte : goal.returns-then-is_edit_byte
returns-then-is_edit_byte c =
    edited_here c.args.text.now c.loop-place.place c.loop-place.counts (is_edited c.args.text.now) c.loop-place-test.true (sym c.is_edit_byte.ensures ∙ c.if-is_edit_byte.true) c.loop-place.invariant

pub loop-place-preserved : goal.loop-place-preserved
loop-place-preserved c =
    edited_on c.args.text.now c.loop-place.place c.loop-place.counts (is_edited c.args.text.now) c.loop-place-test.true (sym c.is_edit_byte.ensures ∙ c.if-is_edit_byte.false) c.loop-place.invariant
    ∙ ap (λ b. is_edited_from b (drop (c.loop-place.place + 1) c.args.text.now)) (sym c.counts_behind-counts.ensures)

pub returns : goal.returns
returns c =
    let at_end : c.loop-place.place ≡ length c.args.text.now = omega arith in
    edited_ends c.args.text.now c.loop-place.place c.loop-place.counts (is_edited c.args.text.now) at_end c.loop-place.invariant
