use Rattle.std.proofs.Common.{◌≡◌, ◌-◌, ◌++◌, [], ◌∷◌, length, refl, ap, ap₂, sum_by, ◌∙◌, arith}
use Rattle.cob_tree.specs.Places.{stmt_places}
use Rattle.statement_lowering.specs.continuations.Paragraphs.{paragraph_end, sentence_size}
use Rattle.statement_lowering.proofs.continuations_lemmas.BeginSteps.{begins_first, begins_more, begins_over, size_fits}
use Rattle.statement_lowering.proofs.continuations.paragraphs.begins_of.Goals as goal

pub loop-number-init : goal.loop-number-init
loop-number-init c =
    let b = begins_first c.args.telling.now.layout.now c.args.sentences.now (length c.args.sentences.now) c.args.end refl in
    (b.0, (paragraph_end, [], c.in_ok-stack.ensures ∙ ap₂ (λ l x. l ++ x ∷ []) c.new-begins.ensures.items c.paragraph_end-last.ensures, b.1))

pub overflow_sub-place : goal.overflow_sub-place
overflow_sub-place c =
    let layout = c.args.telling.now.layout.now in
    let sentences = c.args.sentences.now in
    let n = c.loop-number.number in
    let i = length sentences - 1 - n in
    let sentence = c.index-sentences-sentences.result in
    let lt = c.loop-number-test.true in
    let is = c.index-sentences-sentences.is in
    let inv = c.loop-number.invariant in
    let within = size_fits layout sentences n i sentence lt refl is c.loop-number.place c.args.end inv.0 c.requires.fits in
    let slice = ap (sum_by stmt_places) c.as_slice.ensures in
    let exact : c.stmts_size.result ≡ sentence_size sentence = omega (arith, c.stmts_size.ensures, slice, within) in
    omega (arith, exact, within)

pub overflow_cast-place : goal.overflow_cast-place
overflow_cast-place c =
    let layout = c.args.telling.now.layout.now in
    let sentences = c.args.sentences.now in
    let n = c.loop-number.number in
    let i = length sentences - 1 - n in
    let sentence = c.index-sentences-sentences.result in
    let lt = c.loop-number-test.true in
    let is = c.index-sentences-sentences.is in
    let inv = c.loop-number.invariant in
    let within = size_fits layout sentences n i sentence lt refl is c.loop-number.place c.args.end inv.0 c.requires.fits in
    let slice = ap (sum_by stmt_places) c.as_slice.ensures in
    let exact : c.stmts_size.result ≡ sentence_size sentence = omega (arith, c.stmts_size.ensures, slice, within) in
    omega (arith, exact, within)

pub push_begin-requires : goal.push_begin-requires
push_begin-requires c =
    let layout = c.args.telling.now.layout.now in
    let sentences = c.args.sentences.now in
    let n = c.loop-number.number in
    let i = length sentences - 1 - n in
    let sentence = c.index-sentences-sentences.result in
    let lt = c.loop-number-test.true in
    let is = c.index-sentences-sentences.is in
    let inv = c.loop-number.invariant in
    let within = size_fits layout sentences n i sentence lt refl is c.loop-number.place c.args.end inv.0 c.requires.fits in
    let slice = ap (sum_by stmt_places) c.as_slice.ensures in
    let exact : c.stmts_size.result ≡ sentence_size sentence = omega (arith, c.stmts_size.ensures, slice, within) in
    omega (arith, exact, within)

pub loop-number-preserved : goal.loop-number-preserved
loop-number-preserved c =
    let layout = c.args.telling.now.layout.now in
    let sentences = c.args.sentences.now in
    let n = c.loop-number.number in
    let i = length sentences - 1 - n in
    let sentence = c.index-sentences-sentences.result in
    let lt = c.loop-number-test.true in
    let is = c.index-sentences-sentences.is in
    let inv = c.loop-number.invariant in
    let within = size_fits layout sentences n i sentence lt refl is c.loop-number.place c.args.end inv.0 c.requires.fits in
    let slice = ap (sum_by stmt_places) c.as_slice.ensures in
    let exact : c.stmts_size.result ≡ sentence_size sentence = omega (arith, c.stmts_size.ensures, slice, within) in
    let back = c.loop-number.place - c.stmts_size.result in
    let add = c.in_ok-push_begin.ensures inv.1.0 inv.1.1 inv.1.2 in
    begins_more layout sentences n i sentence lt refl is c.loop-number.place back c.args.end inv.1.0 add.0 inv.1.1 c.loop-number.begins.items c.push_begin.new.begins.items (omega (arith, exact, within)) inv.0 inv.1.2 inv.1.3 add.1 add.2

pub returns : goal.returns
returns c =
    let inv = c.loop-number.invariant in
    begins_over c.args.telling.now.layout.now c.args.sentences.now c.loop-number.number c.loop-number.place c.args.end inv.1.0 inv.1.1 c.loop-number.begins.items (omega (arith, c.loop-number-test.false)) inv.0 inv.1.2 inv.1.3
