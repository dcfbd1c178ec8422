use Rattle.std.proofs.Common.{◌≡◌, ℕ, ◌+◌, ◌<◌, ◌≤◌, ◌++◌, false, true, length, get_or, take, drop, length-set, ap, sym, ◌∙◌, arith}
use Rattle.edit_fields.specs.declared.field.Field.{Field}
use Rattle.edit_fields.specs.Edited.{shown_size}
use Rattle.edit_fields.specs.LightPen.{light_written}
use Rattle.edit_fields.proofs.CapitalLemmas.{capital_at}
use Rattle.edit_fields.proofs.EditedLemmas.{ends_more, left_ends, left_next, left_no_v, left_reaches, length_floated, light, size_puts}
use Rattle.edit_fields.proofs.edited.write_hidden.Goals as goal

pub loop-place-init : goal.loop-place-init
loop-place-init c =
    let figure : Field = c.args.figure.now in
    let right : c.from-right.result ≡ figure.digits = cc (c.from-right.ensures, c.field.ensures) in
    record {
      bytes = ap (λ k. light_written figure (light 0 k false false) c.args.mask.now) (sym right);
      ends = λ h. absurd cc;
      some = λ h. absurd cc;
      room = omega (arith, c.requires.room);
    }

pub float-requires-clause-some : goal.float-requires-clause-some
float-requires-clause-some c = c.loop-place.invariant.some

pub float-requires-clause-within : goal.float-requires-clause-within
float-requires-clause-within c = omega (arith, c.loop-place.invariant.room)

pub returns-then-is_seen : goal.returns-then-is_seen
returns-then-is_seen c =
    let l = c.loop-place in
    let figure : Field = c.args.figure.now in
    let symbol : ℕ = get_or c.args.mask.now l.place 0 in
    let capital = capital_at c.args.mask.now l.place c.loop-place-test.true c.requires.capitals in
    let within : l.place ≤ length l.into = omega (arith, l.invariant.room) in
    record {
      bytes = left_reaches figure c.requires.visible c.requires.string c.args.mask.now l.place symbol l.last l.right l.begun c.loop-place-test.true capital
          c.is_counted-counted.result c.right_behind-behind.result c.is_counted-counted.ensures c.right_behind-behind.ensures
          l.into _ (sym c.is_seen.ensures ∙ c.if-is_seen.true) l.invariant.some within l.invariant.bytes
          ∙ ap (λ bytes. take l.place bytes ++ light_written figure (light l.last l.right l.begun true) (drop l.place c.args.mask.now)) (sym c.float.ensures);
      room = l.invariant.room ∙ sym (ap length c.float.ensures ∙ length_floated figure l.begun l.place l.into);
      within = omega (arith, c.loop-place-test.true);
    }

pub bounds-into-place : goal.bounds-into-place
bounds-into-place c =
    let l = c.loop-place in
    let symbol : ℕ = get_or c.args.mask.now l.place 0 in
    let capital = capital_at c.args.mask.now l.place c.loop-place-test.true c.requires.capitals in
    let no_v = left_no_v c.args.figure.now c.requires.visible c.requires.string c.args.mask.now l.place symbol l.last l.right l.begun c.loop-place-test.true capital
    c.is_counted-counted.result c.right_behind-behind.result c.is_counted-counted.ensures c.right_behind-behind.ensures (sym c.is_seen.ensures ∙ c.if-is_seen.false) in
    let size = size_puts c.args.mask.now l.place symbol c.loop-place-test.true capital no_v in
    omega (arith, size, l.invariant.room)

pub loop-place-preserved : goal.loop-place-preserved
loop-place-preserved c =
    let l = c.loop-place in
    let figure : Field = c.args.figure.now in
    let symbol : ℕ = get_or c.args.mask.now l.place 0 in
    let capital = capital_at c.args.mask.now l.place c.loop-place-test.true c.requires.capitals in
    let unseen = sym c.is_seen.ensures ∙ c.if-is_seen.false in
    let no_v = left_no_v figure c.requires.visible c.requires.string c.args.mask.now l.place symbol l.last l.right l.begun c.loop-place-test.true capital
    c.is_counted-counted.result c.right_behind-behind.result c.is_counted-counted.ensures c.right_behind-behind.ensures unseen in
    let size = size_puts c.args.mask.now l.place symbol c.loop-place-test.true capital no_v in
    let inside : l.place < length l.into = omega (arith, size, l.invariant.room) in
    let room : l.place + 1 + shown_size (drop (l.place + 1) c.args.mask.now) ≡ length l.into = omega (arith, size, l.invariant.room) in
    record {
      bytes = left_next figure c.requires.visible c.requires.string c.args.mask.now l.place symbol l.last l.right l.begun c.loop-place-test.true capital
          c.is_counted-counted.result c.right_behind-behind.result c.is_counted-counted.ensures c.right_behind-behind.ensures
          l.into _ c.left_byte.result c.begins-begun.result c.begins-begun.ensures unseen c.left_byte.ensures inside l.invariant.ends l.invariant.bytes;
      ends = ends_more figure c.begins-begun.result l.place l.last symbol c.left_byte.result l.into inside c.left_byte.ensures;
      some = λ h. omega arith;
      room = room ∙ sym (length-set l.into l.place c.left_byte.result);
    }

pub returns : goal.returns
returns c =
    let l = c.loop-place in
    let figure : Field = c.args.figure.now in
    let past : l.place ≡ length c.args.mask.now = omega arith in
    record {
      bytes = left_ends figure c.args.mask.now l.into _ l.place l.last l.right l.begun past l.invariant.ends l.invariant.bytes;
      room = ap (λ k. k + shown_size (drop k c.args.mask.now)) (sym past) ∙ l.invariant.room;
      within = omega arith;
    }
