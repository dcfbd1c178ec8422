use Rattle.std.proofs.Common.{◌≡◌, ◌<◌, ◌++◌, reverse, length, get_or, Option, Some, None, slice_get, ap, sym, ◌∙◌, arith}
use Rattle.std.proofs.lemmas.Option.{slice_get-get_or}
use Rattle.program_points.specs.declared.paths.trail.Move.{Move}
use Rattle.overlap_trail.specs.declared.finding.search.Predecessor.{Predecessor}
use Rattle.overlap_trail.specs.finding.Search.{listed}
use Rattle.overlap_trail.proofs.finding_lemmas.Taking.{taken-none, taken-more, turned, taken-all}
use Rattle.overlap_trail.proofs.finding.search.moves_to.Goals as goal
use Rattle.overlap_trail.proofs.finding.search.moves_to.Goals.{in-Some+in_ok-push-in-Some, in-None, else-loop-test, then-loop-test+then-here-eq0}

pub loop-init : goal.loop-init
loop-init c = record {
  falls = omega arith;
  taken = taken-none c.args.came.now c.args.at c.new-moves.result.items c.new-moves.ensures.items;
}

pub loop-preserved : goal.loop-preserved
loop-preserved c =
    let none : Predecessor = record { before = 0; moved = None } in
    let came = c.args.came.now in
    let here = c.loop.here in
    let how = get_or came here none in
    let moves = c.loop.moves.items in
    let later = c.match-moved.moves.items in
    let lt : here < length came = omega (arith, c.loop.invariant.falls, c.requires.there) in
    let is : slice_get came here ≡ Some how = slice_get-get_or came here none lt in
    let pos : 0 < here = omega (arith, c.if-here-eq0.false) in
    let back : how.before < here = c.requires.back here how pos is in
    let same : reverse later ≡ listed how.moved ++ reverse moves =
    elim c.match-moved.branch [
      | in-Some+in_ok-push-in-Some w ↦
          turned moves later w.in-Some.moved (ap (λ v. v.items) w.moves-is ∙ w.in_ok-push-in-Some.ensures.items)
          ∙ sym (ap (λ (o : Option Move). listed o ++ reverse moves) w.in-Some.is)
      | in-None w ↦ ap (λ v. reverse v.items) w.moves-is ∙ sym (ap (λ (o : Option Move). listed o ++ reverse moves) w.in-None.is)
    ] in
    record {
      falls = omega (arith, back, c.loop.invariant.falls);
      taken = taken-more came c.args.at here how moves later pos is same c.loop.invariant.taken;
    }

pub returns : goal.returns
returns c =
    let zero_is : c.loop.here ≡ 0 =
    elim c.loop-test.branch [
      | else-loop-test w ↦ absurd (omega (arith, w.loop-test.false, c.loop.invariant.falls, c.requires.there))
      | then-loop-test+then-here-eq0 w ↦ omega (arith, w.if-here-eq0.true)
    ] in
    taken-all c.args.came.now c.args.at c.loop.here c.loop.moves.items c.from_vec.result zero_is (c.from_vec.ensures ∙ c.reverse.ensures.items) c.loop.invariant.taken
