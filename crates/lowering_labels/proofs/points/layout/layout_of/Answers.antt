use Rattle.std.proofs.Common.{◌≡◌, ◌+◌, ◌≤◌, ◌<◌, ◌^◌, ◌++◌, drop, length, refl, sym, ap, ◌∙◌, arith}
use Rattle.std.proofs.lemmas.List.{append-nil}
use Rattle.lowering_labels.specs.points.Layout.{places_from, end_from, paragraph_size}
use Rattle.lowering_labels.proofs.points_lemmas.LayoutLemmas.{placed_below, placed_more, over_placed, end_is_small, table_is_layout}
use Rattle.lowering_labels.proofs.points.layout.layout_of.Goals as goal

pub loop-paragraph-init : goal.loop-paragraph-init
loop-paragraph-init c =
    let small : end_from 0 c.as_slice-paragraph-items.result.now < 2 ^ 31 =
    omega (arith, c.requires, ap (end_from 0) c.as_slice-paragraph-items.ensures, end_is_small c.args.program.now) in
    (ap (λ l. l ++ places_from 0 c.as_slice-paragraph-items.result.now) c.new-places.ensures.items, refl, small)

pub overflow_cast-place : goal.overflow_cast-place
overflow_cast-place c =
    let below = placed_below c.loop-paragraph.place c.loop-paragraph.paragraph-index c.as_slice-paragraph-items.result.now c.paragraph-item.result
    c.loop-paragraph-test.true c.paragraph-item.is in
    omega (arith, below, c.loop-paragraph.invariant.1, c.loop-paragraph.invariant.2)

pub overflow_add-place : goal.overflow_add-place
overflow_add-place c =
    let below = placed_below c.loop-paragraph.place c.loop-paragraph.paragraph-index c.as_slice-paragraph-items.result.now c.paragraph-item.result
    c.loop-paragraph-test.true c.paragraph-item.is in
    omega (arith, below, c.loop-paragraph.invariant.1, c.loop-paragraph.invariant.2)

pub overflow_add-place-in-loop-paragraph : goal.overflow_add-place-in-loop-paragraph
overflow_add-place-in-loop-paragraph c =
    let below = placed_below c.loop-paragraph.place c.loop-paragraph.paragraph-index c.as_slice-paragraph-items.result.now c.paragraph-item.result
    c.loop-paragraph-test.true c.paragraph-item.is in
    omega (arith, below, c.loop-paragraph.invariant.1, c.loop-paragraph.invariant.2, c.paragraph_size.ensures)

pub loop-paragraph-preserved : goal.loop-paragraph-preserved
loop-paragraph-preserved c =
    let below = placed_below c.loop-paragraph.place c.loop-paragraph.paragraph-index c.as_slice-paragraph-items.result.now c.paragraph-item.result
    c.loop-paragraph-test.true c.paragraph-item.is in
    let size : c.paragraph_size.result ≡ paragraph_size c.paragraph-item.result =
    omega (arith, below, c.loop-paragraph.invariant.1, c.loop-paragraph.invariant.2, c.paragraph_size.ensures) in
    let more = placed_more c.loop-paragraph.places.items c.loop-paragraph.place c.loop-paragraph.paragraph-index c.as_slice-paragraph-items.result.now
    c.paragraph-item.result c.paragraph_size.result c.loop-paragraph-test.true c.paragraph-item.is size
    c.loop-paragraph.invariant.0 c.loop-paragraph.invariant.1 in (
      ap (λ l. l ++ places_from (c.loop-paragraph.place + 1 + c.paragraph_size.result) (drop (c.loop-paragraph.paragraph-index + 1) c.as_slice-paragraph-items.result.now)) c.in_ok-push.ensures.items ∙ more.0,
      more.1,
      c.loop-paragraph.invariant.2,
    )

pub returns : goal.returns
returns c =
    let over : length c.as_slice-paragraph-items.result.now ≤ c.loop-paragraph.paragraph-index = omega (arith, c.loop-paragraph-test.false) in
    let none = over_placed c.loop-paragraph.place c.loop-paragraph.paragraph-index c.as_slice-paragraph-items.result.now over in
    table_is_layout c.args.program.now c.loop-paragraph.places.items c.loop-paragraph.place
    (sym (append-nil c.loop-paragraph.places.items) ∙ ap (λ l. c.loop-paragraph.places.items ++ l) (sym none.0)
    ∙ c.loop-paragraph.invariant.0 ∙ ap (places_from 0) c.as_slice-paragraph-items.ensures)
    (sym none.1 ∙ c.loop-paragraph.invariant.1 ∙ ap (end_from 0) c.as_slice-paragraph-items.ensures)
