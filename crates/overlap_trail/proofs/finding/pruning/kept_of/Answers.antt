use Rattle.std.proofs.Common.{◌≡◌, get_or, false, subst, arith}
use Rattle.std.proofs.lemmas.Option.{slice_get-get_or}
use Rattle.program_points.specs.declared.paths.trail.Lemma.{Lemma}
use Rattle.overlap_trail.specs.finding.Pruning.{KeepsOne}
use Rattle.overlap_trail.proofs.finding_lemmas.Shortening.{keeps-none, keeps-step, keeps-all}
use Rattle.overlap_trail.proofs.finding.pruning.kept_of.Goals as goal

pub loop-number-init : goal.loop-number-init
loop-number-init c = keeps-none c.args.lemmas.now c.args.needed.now c.new.result c.new-2.result.items c.new.ensures c.new-2.ensures.items

pub loop-number-preserved : goal.loop-number-preserved
loop-number-preserved c =
    let lemmas = c.args.lemmas.now in
    let needed = c.args.needed.now in
    let number = c.loop-number.number in
    let lemma = get_or lemmas number c.index-lemmas-number.result in
    let there = slice_get-get_or lemmas number c.index-lemmas-number.result c.loop-number-test.true in
    let same : c.index-lemmas-number.result ≡ lemma = c.index-lemmas-number.is in
    let flag = get_or needed number false in
    let flag_is = slice_get-get_or needed number false (omega (arith, c.loop-number-test.true, c.requires.size)) in
    let old = c.loop-number.kept in
    let new = c.keep.new.self in
    keeps-step lemmas needed old.lemmas new.lemmas old.ranks.items new.ranks.items number lemma flag there flag_is c.requires.flags
    (subst (λ (l : Lemma). KeepsOne l flag old.lemmas old.ranks.items new.lemmas new.ranks.items) same c.in_ok-keep.ensures) c.loop-number.invariant

pub returns : goal.returns
returns c = keeps-all c.args.lemmas.now c.args.needed.now c.loop-number.kept.lemmas c.loop-number.kept.ranks.items c.loop-number.number c.loop-number.invariant c.loop-number-test.false
