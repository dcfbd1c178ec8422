use Rattle.std.proofs.Common.{◌≡◌, ◌+◌, ◌<◌, get_or, length, ap, sym, ◌∙◌, arith, subst, sum_by}
use Rattle.cob_tree.specs.Places.{stmt_places}
use Rattle.control_flow_theory.specs.language.Control.{seen_stmts}
use Rattle.control_flow_theory.specs.language.OwnItems.{stmts_own}
use Rattle.control_flow_theory.specs.lowering.Completes.{cuts, leave_sentence}
use Rattle.program_facts.specs.declared.completion.facts.Facts.{Facts}
use Rattle.statement_lowering.specs.LowerList.{flow_facts_by}
use Rattle.statement_lowering.specs.declared.continuations.continuation.Successors.{Successors}
use Rattle.statement_lowering.specs.continuations.Successors.{GoesLater}
use Rattle.statement_lowering.specs.continuations.Paragraphs.{inside}
use Rattle.statement_lowering.specs.continuations.Statements.{AddsRests}
use Rattle.statement_lowering.proofs.continuations_lemmas.ParagraphContinuations.{sentences_more, sentences_over, sentences_start, sentence_fits}
use Rattle.statement_lowering.proofs.continuations.paragraphs.push_paragraph.Goals as goal

pub loop-sentence-init : goal.loop-sentence-init
loop-sentence-init c =
    sentences_start c.args.telling.now c.args.paragraph.now c.args.number c.args.last c.args.end c.args.spots.now.items c.push_spot.new.spots.items c.as_slice-sentences.result.now c.in_ok-begins.begins.items
    c.taken-first.new.begins.items c.taken-first.result c.in_sentence-own.result c.as_slice-sentences.ensures c.requires.place c.requires.fits c.requires.own c.in_ok-begins.ensures c.taken-first.ensures c.in_sentence-own.ensures
    c.in_ok-push_spot.ensures

pub push_stmts-requires-clause-own : goal.push_stmts-requires-clause-own
push_stmts-requires-clause-own c =
    let telling = c.args.telling.now in
    let paragraph = c.args.paragraph.now in
    let i = c.loop-sentence.sentence-index in
    let sentence = c.sentence-item.result in
    let same = c.as_slice-sentences.ensures in
    let lt : i < length paragraph.sentences = omega (arith, c.loop-sentence-test.true, ap length same) in
    let at : sentence ≡ get_or paragraph.sentences i sentence = c.sentence-item.is ∙ ap (λ l. get_or l i sentence) same in
    let leaves = c.stmts_facts-facts.result.leaves_sentence in
    let taken = c.taken-next.result in
    let left = c.taken-next.new.begins.items in
    let onward : c.in_sentence-onward.result ≡ inside taken leaves c.args.number c.args.last = c.in_sentence-onward.ensures in
    let old = c.args.spots.now.items in
    let now = c.loop-sentence.spots.items in
    let fit = sentence_fits telling paragraph c.args.number c.args.last i sentence lt at old now c.loop-sentence.begins.items c.loop-sentence.invariant left taken leaves c.taken-next.ensures (omega (arith, c.requires.place, c.requires.fits)) in
    ap stmts_own c.as_slice-stmts.ensures ∙ fit.0

pub push_stmts-requires-clause-fits : goal.push_stmts-requires-clause-fits
push_stmts-requires-clause-fits c =
    let telling = c.args.telling.now in
    let paragraph = c.args.paragraph.now in
    let i = c.loop-sentence.sentence-index in
    let sentence = c.sentence-item.result in
    let same = c.as_slice-sentences.ensures in
    let lt : i < length paragraph.sentences = omega (arith, c.loop-sentence-test.true, ap length same) in
    let at : sentence ≡ get_or paragraph.sentences i sentence = c.sentence-item.is ∙ ap (λ l. get_or l i sentence) same in
    let leaves = c.stmts_facts-facts.result.leaves_sentence in
    let taken = c.taken-next.result in
    let left = c.taken-next.new.begins.items in
    let onward : c.in_sentence-onward.result ≡ inside taken leaves c.args.number c.args.last = c.in_sentence-onward.ensures in
    let old = c.args.spots.now.items in
    let now = c.loop-sentence.spots.items in
    let fit = sentence_fits telling paragraph c.args.number c.args.last i sentence lt at old now c.loop-sentence.begins.items c.loop-sentence.invariant left taken leaves c.taken-next.ensures (omega (arith, c.requires.place, c.requires.fits)) in
    omega (arith, fit.1, ap (sum_by stmt_places) c.as_slice-stmts.ensures)

pub push_stmts-requires-clause-later : goal.push_stmts-requires-clause-later
push_stmts-requires-clause-later c =
    let telling = c.args.telling.now in
    let paragraph = c.args.paragraph.now in
    let i = c.loop-sentence.sentence-index in
    let sentence = c.sentence-item.result in
    let same = c.as_slice-sentences.ensures in
    let lt : i < length paragraph.sentences = omega (arith, c.loop-sentence-test.true, ap length same) in
    let at : sentence ≡ get_or paragraph.sentences i sentence = c.sentence-item.is ∙ ap (λ l. get_or l i sentence) same in
    let leaves = c.stmts_facts-facts.result.leaves_sentence in
    let taken = c.taken-next.result in
    let left = c.taken-next.new.begins.items in
    let onward : c.in_sentence-onward.result ≡ inside taken leaves c.args.number c.args.last = c.in_sentence-onward.ensures in
    let old = c.args.spots.now.items in
    let now = c.loop-sentence.spots.items in
    let fit = sentence_fits telling paragraph c.args.number c.args.last i sentence lt at old now c.loop-sentence.begins.items c.loop-sentence.invariant left taken leaves c.taken-next.ensures (omega (arith, c.requires.place, c.requires.fits)) in
    subst (λ (o : Successors). GoesLater (length now + sum_by stmt_places c.as_slice-stmts.result.now) telling.layout.now.end o.behind) (sym onward)
    (subst (λ l. GoesLater (length now + sum_by stmt_places l) telling.layout.now.end (inside taken leaves c.args.number c.args.last).behind) (sym c.as_slice-stmts.ensures) fit.2)

pub loop-sentence-preserved : goal.loop-sentence-preserved
loop-sentence-preserved c =
    let telling = c.args.telling.now in
    let paragraph = c.args.paragraph.now in
    let i = c.loop-sentence.sentence-index in
    let sentence = c.sentence-item.result in
    let same = c.as_slice-sentences.ensures in
    let lt : i < length paragraph.sentences = omega (arith, c.loop-sentence-test.true, ap length same) in
    let at : sentence ≡ get_or paragraph.sentences i sentence = c.sentence-item.is ∙ ap (λ l. get_or l i sentence) same in
    let leaves = c.stmts_facts-facts.result.leaves_sentence in
    let taken = c.taken-next.result in
    let left = c.taken-next.new.begins.items in
    let onward : c.in_sentence-onward.result ≡ inside taken leaves c.args.number c.args.last = c.in_sentence-onward.ensures in
    let old = c.args.spots.now.items in
    let now = c.loop-sentence.spots.items in
    sentences_more telling paragraph c.args.number c.args.last i sentence lt at old now c.loop-sentence.begins.items c.loop-sentence.invariant left taken leaves c.push_stmts.new.spots.items c.taken-next.ensures
    (ap (λ (f : Facts). f.leaves_sentence) (c.stmts_facts-facts.ensures c.args.last) ∙ ap (λ l. leave_sentence (cuts (flow_facts_by telling) (seen_stmts c.args.last l))) c.as_slice-stmts.ensures)
    (subst (λ o. AddsRests telling.layout.now sentence.stmts o now c.push_stmts.new.spots.items) onward
    (subst (λ l. AddsRests telling.layout.now l c.in_sentence-onward.result now c.push_stmts.new.spots.items) c.as_slice-stmts.ensures c.in_ok-push_stmts.ensures))

pub returns : goal.returns
returns c =
    sentences_over c.args.telling.now c.args.paragraph.now c.args.number c.args.last c.loop-sentence.sentence-index c.args.spots.now.items c.loop-sentence.spots.items c.loop-sentence.begins.items
    (omega (arith, c.loop-sentence-test.false, ap length c.as_slice-sentences.ensures)) c.loop-sentence.invariant
