use Rattle.std.proofs.Common.{◌≡◌, ◌<◌, ◌-◌, ℕ, suc, length, get_or, subst, arith}
use Rattle.std.proofs.lemmas.Option.{slice_get-get_or}
use Rattle.program_points.specs.declared.paths.trail.Lemma.{Lemma}
use Rattle.overlap_trail.specs.finding.Pruning.{Flags}
use Rattle.overlap_trail.proofs.finding_lemmas.Needing.{LemmasNeed, lemmas-none, lemmas-need}
use Rattle.overlap_trail.proofs.finding.pruning.need_of_lemmas.Goals as goal

pub loop-number-init : goal.loop-number-init
loop-number-init c = lemmas-none c.args.lemmas.now c.args.needed.now.items

pub loop-number-preserved : goal.loop-number-preserved
loop-number-preserved c =
    let lemmas = c.args.lemmas.now in
    let index : ℕ = c.loop-number.number - 1 in
    let up : c.loop-number.number ≡ suc index = omega (arith, c.loop-number-test.true) in
    let lt : index < length lemmas = omega (arith, c.loop-number-test.true, c.loop-number.auto.number) in
    let lemma = get_or lemmas index c.index-lemmas-number.result in
    let there = slice_get-get_or lemmas index c.index-lemmas-number.result lt in
    let same : c.index-lemmas-number.result ≡ lemma = c.index-lemmas-number.is in
    lemmas-need lemmas c.args.needed.now.items c.loop-number.needed.items c.need_of.new.needed.items index lemma there c.need_of.ensures.adds
    (λ on. subst (λ (l : Lemma). Flags c.need_of.new.needed.items index l.moves) same (c.need_of.ensures.flags on))
    (subst (λ (n : ℕ). LemmasNeed lemmas c.args.needed.now.items c.loop-number.needed.items n) up c.loop-number.invariant)

pub returns : goal.returns
returns c =
    let so_far = c.loop-number.invariant in
    record {
      size = so_far.size;
      kept = so_far.kept;
      flags = λ at lemma e on. so_far.flags at lemma (omega (arith, c.loop-number-test.false)) e on;
    }
