use Rattle.std.proofs.Common.{◌≡◌, ℕ, ◌+◌, ◌<◌, ◌≤◌, ◌∷◌, ◌++◌, true, length, get_or, take, drop, length-set, ap, sym, ◌∙◌, arith}
use Rattle.edit_fields.specs.Edited.{shown_size}
use Rattle.edit_fields.specs.LightPen.{light_written}
use Rattle.edit_fields.proofs.CapitalLemmas.{capital_at}
use Rattle.edit_fields.proofs.EditedLemmas.{all_put, light, put_next, shown_ends, shown_puts, shown_skips, size_past, size_puts, size_skips}
use Rattle.edit_fields.proofs.edited.write_shown.Goals as goal

pub loop-place-init : goal.loop-place-init
loop-place-init c = record { bytes = c.requires.reached.bytes; room = c.requires.reached.room }

pub loop-place-preserved-then-symbol-eq86 : goal.loop-place-preserved-then-symbol-eq86
loop-place-preserved-then-symbol-eq86 c =
    let l = c.loop-place in
    let symbol : ℕ = get_or c.args.mask.now l.place 0 in
    let capital = capital_at c.args.mask.now l.place c.loop-place-test.true c.requires.capitals in
    let size = size_skips c.args.mask.now l.place symbol c.loop-place-test.true capital c.if-symbol-eq86.true in
    record {
      bytes = l.invariant.bytes ∙ ap (λ r. take l.at l.into ++ r) (shown_skips c.args.figure.now c.requires.visible c.args.mask.now l.place symbol l.last l.right l.begun c.loop-place-test.true capital
          c.is_counted-counted.result c.right_behind-right.result c.begins-begun.result c.is_counted-counted.ensures c.right_behind-right.ensures c.begins-begun.ensures c.if-symbol-eq86.true);
      room = omega (arith, size, l.invariant.room);
    }

pub bounds-into-at : goal.bounds-into-at
bounds-into-at c =
    let l = c.loop-place in
    let symbol : ℕ = get_or c.args.mask.now l.place 0 in
    let capital = capital_at c.args.mask.now l.place c.loop-place-test.true c.requires.capitals in
    let size = size_puts c.args.mask.now l.place symbol c.loop-place-test.true capital c.if-symbol-eq86.false in
    omega (arith, size, l.invariant.room)

pub loop-place-preserved : goal.loop-place-preserved
loop-place-preserved c =
    let l = c.loop-place in
    let symbol : ℕ = get_or c.args.mask.now l.place 0 in
    let capital = capital_at c.args.mask.now l.place c.loop-place-test.true c.requires.capitals in
    let size = size_puts c.args.mask.now l.place symbol c.loop-place-test.true capital c.if-symbol-eq86.false in
    let inside : l.at < length l.into = omega (arith, size, l.invariant.room) in
    let room : l.at + 1 + shown_size (drop (l.place + 1) c.args.mask.now) ≡ length l.into = omega (arith, size, l.invariant.room) in
    record {
      bytes = put_next l.into _ _ _ l.at c.shown_byte.result inside l.invariant.bytes
          (shown_puts c.args.figure.now c.requires.visible c.args.mask.now l.place symbol l.last l.right l.begun c.loop-place-test.true capital
          c.is_counted-counted.result c.right_behind-right.result c.begins-begun.result c.is_counted-counted.ensures c.right_behind-right.ensures c.begins-begun.ensures c.if-symbol-eq86.false
          ∙ ap (λ b. b ∷ light_written c.args.figure.now (light symbol c.right_behind-right.result c.begins-begun.result true) (drop (l.place + 1) c.args.mask.now)) (sym c.shown_byte.ensures));
      room = room ∙ sym (length-set l.into l.at c.shown_byte.result);
    }

pub returns : goal.returns
returns c =
    let l = c.loop-place in
    let past : length c.args.mask.now ≤ l.place = omega arith in
    let full : length l.into ≤ l.at = omega (arith, size_past c.args.mask.now l.place past, l.invariant.room) in
    all_put l.into _ _ l.at full l.invariant.bytes (shown_ends c.args.figure.now c.args.mask.now l.place l.last l.right l.begun past)
