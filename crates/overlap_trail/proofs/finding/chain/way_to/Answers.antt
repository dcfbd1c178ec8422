use Rattle.std.proofs.Common.{◌≡◌, ◌<◌, length, get_or, Some, None, slice_get, arith}
use Rattle.std.proofs.lemmas.Option.{slice_get-get_or}
use Rattle.overlap_trail.specs.declared.finding.search.Predecessor.{Predecessor}
use Rattle.overlap_trail.proofs.finding_lemmas.Taking.{went-none, went-more, went-all}
use Rattle.overlap_trail.proofs.finding.chain.way_to.Goals as goal
use Rattle.overlap_trail.proofs.finding.chain.way_to.Goals.{else-loop-test, then-loop-test+then-here-eq0}

pub loop-init : goal.loop-init
loop-init c = record {
  falls = omega arith;
  went = went-none c.args.came.now c.args.places.now c.args.at c.new-path.result.items c.new-path.ensures.items;
}

pub loop-preserved : goal.loop-preserved
loop-preserved c =
    let none : Predecessor = record { before = 0; moved = None } in
    let came = c.args.came.now in
    let places = c.args.places.now in
    let here = c.loop.here in
    let how = get_or came here none in
    let lt : here < length came = omega (arith, c.loop.invariant.falls, c.requires.there) in
    let lt2 : here < length places = omega (arith, lt, c.requires.size) in
    let is : slice_get came here ≡ Some how = slice_get-get_or came here none lt in
    let place_is : slice_get places here ≡ Some (get_or places here 0) = slice_get-get_or places here 0 lt2 in
    let pos : 0 < here = omega (arith, c.if-here-eq0.false) in
    let back : how.before < here = c.requires.back here how pos is in
    record {
      falls = omega (arith, back, c.loop.invariant.falls);
      went = went-more came places c.args.at here (get_or places here 0) how c.loop.path.items c.push.new.self.items pos place_is is c.in_ok-push.ensures.items c.loop.invariant.went;
    }

pub returns : goal.returns
returns c =
    let zero_is : c.loop.here ≡ 0 =
    elim c.loop-test.branch [
      | else-loop-test w ↦ absurd (omega (arith, w.loop-test.false, c.loop.invariant.falls, c.requires.there))
      | then-loop-test+then-here-eq0 w ↦ omega (arith, w.if-here-eq0.true)
    ] in
    went-all c.args.came.now c.args.places.now c.args.at c.loop.here c.loop.path.items c.reverse.new.self.items zero_is c.reverse.ensures.items c.loop.invariant.went
