use Rattle.std.proofs.Common.{get_or, arith}
use Rattle.std.proofs.lemmas.Option.{slice_get-get_or}
use Rattle.pending_returns.proofs.Kept.{renumbers-none, renumbers-more, renumbers-all}
use Rattle.pending_returns.proofs.keeping.renumbered.Goals as goal

pub loop-at-init : goal.loop-at-init
loop-at-init c = renumbers-none c.args.ranks.now c.args.calls.now _ c.new-made.ensures

pub loop-at-preserved : goal.loop-at-preserved
loop-at-preserved c =
    let ranks = c.args.ranks.now in
    let calls = c.args.calls.now in
    let at = c.loop-at.at in
    let here = slice_get-get_or calls at 0 c.loop-at-test.true in
    let call = get_or calls at 0 in
    renumbers-more ranks calls at call (get_or ranks call 0) c.loop-at.made c.push.new.self here (slice_get-get_or ranks call 0 (c.requires.below call (at, here))) c.in_ok-push.ensures.ok c.loop-at.invariant

pub returns : goal.returns
returns c = renumbers-all c.args.ranks.now c.args.calls.now c.loop-at.made c.loop-at.at (omega (arith, c.loop-at-test.false, c.loop-at.auto.at-end)) c.loop-at.invariant

pub bounds-ranks-calls : goal.bounds-ranks-calls
bounds-ranks-calls c =
    let calls = c.args.calls.now in
    let at = c.loop-at.at in
    c.requires.below (get_or calls at 0) (at, slice_get-get_or calls at 0 c.loop-at-test.true)
