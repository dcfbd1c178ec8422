use Rattle.std.proofs.Common.{List, get_or, subst, sym, arith}
use Rattle.std.proofs.lemmas.Option.{slice_get-get_or}
use Rattle.cob_tree.specs.declared.program.Range.{Range}
use Rattle.overlap_trail.specs.finding.Chain.{EndsAmong}
use Rattle.overlap_trail.proofs.finding_lemmas.Chaining.{cut-none, cut-more, cut-ended, cut-whole}
use Rattle.overlap_trail.proofs.finding.chain.cut.Goals as goal

pub loop-at-init : goal.loop-at-init
loop-at-init c = record {
  so_far = cut-none c.args.levels.now c.args.path.now c.new-ranges.result.items c.new-ranges.ensures.items;
  within = omega arith;
}

pub bounds-levels-path : goal.bounds-levels-path
bounds-levels-path c = c.requires.below (get_or c.args.path.now c.loop-at.at 0) (c.loop-at.at, slice_get-get_or c.args.path.now c.loop-at.at 0 c.loop-at-test.true)

pub bounds-levels-path-in-loop-at : goal.bounds-levels-path-in-loop-at
bounds-levels-path-in-loop-at c = c.requires.below (get_or c.args.path.now c.loop-at.at 0) (c.loop-at.at, slice_get-get_or c.args.path.now c.loop-at.at 0 c.loop-at-test.true)

pub returns-in-Some : goal.returns-in-Some
returns-in-Some c =
    let path = c.args.path.now in
    let levels = c.args.levels.now in
    let at = c.loop-at.at in
    let number = get_or path at 0 in
    let here = slice_get-get_or path at 0 c.loop-at-test.true in
    let facts = get_or levels number c.index-levels-path.result in
    let there = slice_get-get_or levels number c.index-levels-path.result (c.requires.below number (at, here)) in
    let way = c.requires.way in
    let among = subst (λ (rs : List Range). EndsAmong rs c.in-Some.end) c.as_slice.ensures.value c.in-Some.ensures.1 in
    cut-ended levels path way.0 way.1 c.args.fault c.requires.levels way.2 at c.loop-at.ranges.items c.loop-at.invariant.so_far c.loop-at.invariant.within number c.in-Some.end facts here there c.in-Some.ensures.0 among

pub loop-at-preserved : goal.loop-at-preserved
loop-at-preserved c =
    let path = c.args.path.now in
    let levels = c.args.levels.now in
    let at = c.loop-at.at in
    let number = get_or path at 0 in
    let here = slice_get-get_or path at 0 c.loop-at-test.true in
    let facts = get_or levels number c.index-levels-path.result in
    let there = slice_get-get_or levels number c.index-levels-path.result (c.requires.below number (at, here)) in
    let way = c.requires.way in
    record {
      so_far = cut-more levels path way.0 way.1 c.args.fault c.requires.levels way.2 at number facts c.loop-at.ranges.items c.push.new.self.items here there
          (λ exit x among. c.in-None.ensures exit x (subst (λ (rs : List Range). EndsAmong rs exit) (sym c.as_slice.ensures.value) among)) c.in_ok-push.ensures.items c.loop-at.invariant.so_far;
      within = omega (arith, c.loop-at-test.true);
    }

pub returns : goal.returns
returns c =
    let way = c.requires.way in
    cut-whole c.args.levels.now c.args.path.now way.0 way.1 c.args.fault c.requires.levels way.2 c.loop-at.at c.loop-at.ranges.items c.loop-at.invariant.so_far c.loop-at.invariant.within (omega (arith, c.loop-at-test.false))
