use Rattle.std.proofs.Common.{◌≡◌, ◌+◌, ◌<◌, ◌≤◌, ◌∷◌, ◌++◌, length, take, drop, length-set, refl, ap, sym, ◌∙◌, arith}
use Rattle.edit_fields.specs.Edited.{shown_size}
use Rattle.edit_fields.specs.LightPen.{blank_written}
use Rattle.edit_fields.proofs.EditedLemmas.{all_put, blank_ends, blank_puts, blank_skips, put_next, size_past, size_puts, size_skips}
use Rattle.edit_fields.proofs.edited.write_blank.Goals as goal

pub loop-place-init : goal.loop-place-init
loop-place-init c = record { bytes = refl; room = omega (arith, c.requires) }

pub loop-place-preserved-then-symbol-eq86 : goal.loop-place-preserved-then-symbol-eq86
loop-place-preserved-then-symbol-eq86 c =
    let l = c.loop-place in
    let upper = c.to_ascii_uppercase-symbol in
    let size = size_skips c.args.mask.now l.place upper.result c.loop-place-test.true upper.ensures.value c.if-symbol-eq86.true in
    record {
      bytes = l.invariant.bytes ∙ ap (λ r. take l.at l.into ++ r) (blank_skips c.args.field c.args.mask.now l.place upper.result c.loop-place-test.true upper.ensures.value c.if-symbol-eq86.true);
      room = omega (arith, size, l.invariant.room);
    }

pub bounds-into-at : goal.bounds-into-at
bounds-into-at c =
    let l = c.loop-place in
    let upper = c.to_ascii_uppercase-symbol in
    let size = size_puts c.args.mask.now l.place upper.result c.loop-place-test.true upper.ensures.value c.if-symbol-eq86.false in
    omega (arith, size, l.invariant.room)

pub loop-place-preserved : goal.loop-place-preserved
loop-place-preserved c =
    let l = c.loop-place in
    let upper = c.to_ascii_uppercase-symbol in
    let size = size_puts c.args.mask.now l.place upper.result c.loop-place-test.true upper.ensures.value c.if-symbol-eq86.false in
    let inside : l.at < length l.into = omega (arith, size, l.invariant.room) in
    let room : l.at + 1 + shown_size (drop (l.place + 1) c.args.mask.now) ≡ length l.into = omega (arith, size, l.invariant.room) in
    record {
      bytes = put_next l.into _ _ _ l.at c.blank_byte.result inside l.invariant.bytes
          (blank_puts c.args.field c.args.mask.now l.place upper.result c.loop-place-test.true upper.ensures.value c.if-symbol-eq86.false
          ∙ ap (λ b. b ∷ blank_written c.args.field (drop (l.place + 1) c.args.mask.now)) (sym c.blank_byte.ensures));
      room = room ∙ sym (length-set l.into l.at c.blank_byte.result);
    }

pub returns : goal.returns
returns c =
    let l = c.loop-place in
    let past : length c.args.mask.now ≤ l.place = omega arith in
    let full : length l.into ≤ l.at = omega (arith, size_past c.args.mask.now l.place past, l.invariant.room) in
    all_put l.into _ _ l.at full l.invariant.bytes (blank_ends c.args.field c.args.mask.now l.place past)
