use Rattle.std.proofs.Common.{◌≡◌, ◌+◌, ◌<◌, drop, get_or, length, refl, ap, ap₂, sym, ◌∙◌, arith, subst}
use Rattle.control_flow_theory.specs.language.Control.{section_last}
use Rattle.lowering_labels.specs.points.Layout.{place_at}
use Rattle.statement_lowering.proofs.continuations_lemmas.ProgramContinuations.{next_below, next_place, own_first, paragraphs_begin, paragraphs_below, paragraphs_more, paragraphs_over, Paragraphs}
use Rattle.statement_lowering.proofs.continuations.paragraphs.continuations_of.Goals as goal

pub loop-paragraph-init : goal.loop-paragraph-init
loop-paragraph-init c =
    (refl, subst (Paragraphs c.args.telling.now c.args.program.now 0 0) (sym c.new-spots.ensures.items) (paragraphs_begin c.args.telling.now c.args.program.now 0 c.requires.layout c.requires.own))

pub section_end-last-requires-clause-small : goal.section_end-last-requires-clause-small
section_end-last-requires-clause-small c =
    omega (arith, paragraphs_below 0 c.args.program.now.paragraphs, c.requires.layout.last, c.requires.small, ap length c.as_slice-paragraphs.ensures)

pub section_end-last-requires-clause-before : goal.section_end-last-requires-clause-before
section_end-last-requires-clause-before c = λ before is.
    c.loop-paragraph.invariant.1.section before (sym c.loop-paragraph.invariant.0 ∙ is)
    ∙ ap₂ (λ n l. section_last before (drop n l)) (sym c.loop-paragraph.invariant.0) (sym c.as_slice-paragraphs.ensures)

pub overflow_add-number : goal.overflow_add-number
overflow_add-number c =
    let telling = c.args.telling.now in
    let program = c.args.program.now in
    let same = c.as_slice-paragraphs.ensures in
    let i = c.loop-paragraph.paragraph-index in
    let inv = c.loop-paragraph.invariant in
    let all = paragraphs_below 0 program.paragraphs in
    let lt : i < length program.paragraphs = omega (arith, c.loop-paragraph-test.true, ap length same) in
    omega (arith, inv.0, lt, all, c.requires.layout.last, c.requires.small)

pub overflow_add-number-in-loop-paragraph : goal.overflow_add-number-in-loop-paragraph
overflow_add-number-in-loop-paragraph c =
    let telling = c.args.telling.now in
    let program = c.args.program.now in
    let same = c.as_slice-paragraphs.ensures in
    let i = c.loop-paragraph.paragraph-index in
    let inv = c.loop-paragraph.invariant in
    let all = paragraphs_below 0 program.paragraphs in
    let lt : i < length program.paragraphs = omega (arith, c.loop-paragraph-test.true, ap length same) in
    omega (arith, inv.0, lt, all, c.requires.layout.last, c.requires.small)

pub push_paragraph-requires-clause-place : goal.push_paragraph-requires-clause-place
push_paragraph-requires-clause-place c =
    let telling = c.args.telling.now in
    let program = c.args.program.now in
    let same = c.as_slice-paragraphs.ensures in
    let i = c.loop-paragraph.paragraph-index in
    let inv = c.loop-paragraph.invariant in
    let all = paragraphs_below 0 program.paragraphs in
    let lt : i < length program.paragraphs = omega (arith, c.loop-paragraph-test.true, ap length same) in
    let paragraph = c.paragraph-item.result in
    let at : paragraph ≡ get_or program.paragraphs i paragraph = c.paragraph-item.is ∙ ap (λ l. get_or l i paragraph) same in
    sym (c.place_of-end.ensures ∙ ap (λ n. place_at telling.layout.now.places.items telling.layout.now.end (n + 1)) inv.0 ∙ next_place telling program i paragraph lt at c.loop-paragraph.last c.loop-paragraph.spots.items inv.1)

pub push_paragraph-requires-clause-fits : goal.push_paragraph-requires-clause-fits
push_paragraph-requires-clause-fits c =
    let telling = c.args.telling.now in
    let program = c.args.program.now in
    let same = c.as_slice-paragraphs.ensures in
    let i = c.loop-paragraph.paragraph-index in
    let inv = c.loop-paragraph.invariant in
    let all = paragraphs_below 0 program.paragraphs in
    let lt : i < length program.paragraphs = omega (arith, c.loop-paragraph-test.true, ap length same) in
    let paragraph = c.paragraph-item.result in
    let at : paragraph ≡ get_or program.paragraphs i paragraph = c.paragraph-item.is ∙ ap (λ l. get_or l i paragraph) same in
    let place = c.place_of-end.ensures ∙ ap (λ n. place_at telling.layout.now.places.items telling.layout.now.end (n + 1)) inv.0 ∙ next_place telling program i paragraph lt at c.loop-paragraph.last c.loop-paragraph.spots.items inv.1 in
    omega (arith, place, next_below telling program i paragraph lt at c.loop-paragraph.last c.loop-paragraph.spots.items inv.1)

pub push_paragraph-requires-clause-own : goal.push_paragraph-requires-clause-own
push_paragraph-requires-clause-own c =
    let telling = c.args.telling.now in
    let program = c.args.program.now in
    let same = c.as_slice-paragraphs.ensures in
    let i = c.loop-paragraph.paragraph-index in
    let inv = c.loop-paragraph.invariant in
    let all = paragraphs_below 0 program.paragraphs in
    let lt : i < length program.paragraphs = omega (arith, c.loop-paragraph-test.true, ap length same) in
    let paragraph = c.paragraph-item.result in
    let at : paragraph ≡ get_or program.paragraphs i paragraph = c.paragraph-item.is ∙ ap (λ l. get_or l i paragraph) same in
    (own_first telling program i paragraph lt at c.loop-paragraph.last c.loop-paragraph.spots.items inv.1).0

pub loop-paragraph-preserved : goal.loop-paragraph-preserved
loop-paragraph-preserved c =
    let telling = c.args.telling.now in
    let program = c.args.program.now in
    let same = c.as_slice-paragraphs.ensures in
    let i = c.loop-paragraph.paragraph-index in
    let inv = c.loop-paragraph.invariant in
    let all = paragraphs_below 0 program.paragraphs in
    let lt : i < length program.paragraphs = omega (arith, c.loop-paragraph-test.true, ap length same) in
    let paragraph = c.paragraph-item.result in
    let at : paragraph ≡ get_or program.paragraphs i paragraph = c.paragraph-item.is ∙ ap (λ l. get_or l i paragraph) same in (
      ap (λ n. n + 1) inv.0,
      paragraphs_more telling program i paragraph lt at c.loop-paragraph.last c.loop-paragraph.spots.items inv.1 c.loop-paragraph.number c.section_end-last.result c.push_paragraph.new.spots.items inv.0
          (c.section_end-last.ensures ∙ ap₂ (λ n l. section_last n (drop (n + 1) l)) inv.0 same) c.in_ok-push_paragraph.ensures,
    )

pub returns : goal.returns
returns c =
    paragraphs_over c.args.telling.now c.args.program.now c.loop-paragraph.paragraph-index c.loop-paragraph.last c.loop-paragraph.spots.items (omega (arith, c.loop-paragraph-test.false, ap length c.as_slice-paragraphs.ensures))
    c.loop-paragraph.invariant.1
