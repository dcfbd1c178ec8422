use Rattle.std.proofs.Common.{◌<◌, length, get_or, refl, ◌∙◌, arith}
use Rattle.std.proofs.lemmas.Option.{slice_get-get_or, slice_get_read}
use Rattle.pending_returns.specs.declared.facts.RangeFacts.{RangeFacts}
use Rattle.pending_returns.proofs.Kept.{keeps-none, keeps-more, keeps-all, kept-calls, renumbered-facts}
use Rattle.pending_returns.proofs.keeping.kept_facts.Goals as goal

pub loop-at-init : goal.loop-at-init
loop-at-init c = keeps-none c.args.levels.now c.args.kept.now c.args.ranks.now _ c.new-made.ensures

pub renumbered-requires : goal.renumbered-requires
renumbered-requires c =
    let levels = c.args.levels.now in
    let kept = c.args.kept.now in
    let here = slice_get-get_or kept c.loop-at.at 0 c.loop-at-test.true in
    let number = get_or kept c.loop-at.at 0 in
    let inside : number < length levels = c.requires.below number (c.loop-at.at, here) in
    record { below = kept-calls levels (length c.args.ranks.now) number c.index-levels-kept.result c.as_slice.result.now c.requires.calls (slice_get_read levels (length levels) number c.index-levels-kept.result refl inside c.index-levels-kept.is) c.as_slice.ensures }

pub loop-at-preserved : goal.loop-at-preserved
loop-at-preserved c =
    let levels = c.args.levels.now in
    let kept = c.args.kept.now in
    let ranks = c.args.ranks.now in
    let at = c.loop-at.at in
    let here = slice_get-get_or kept at 0 c.loop-at-test.true in
    let number = get_or kept at 0 in
    let inside : number < length levels = c.requires.below number (at, here) in
    let facts = c.index-levels-kept.result in
    let new : RangeFacts = record { range = facts.range; returns = facts.returns; calls = c.in_ok-calls.calls; ends = c.in_ok-ends.ends } in
    keeps-more levels kept ranks at number facts new c.loop-at.made c.push.new.self here (slice_get_read levels (length levels) number facts refl inside c.index-levels-kept.is)
    (renumbered-facts ranks c.as_slice.result.now facts new refl refl c.as_slice.ensures c.in_ok-calls.ensures (c.in_ok-ends.ensures ∙ c.as_slice-in-loop-at.ensures)) c.in_ok-push.ensures.ok c.loop-at.invariant

pub returns : goal.returns
returns c = keeps-all c.args.levels.now c.args.kept.now c.args.ranks.now c.loop-at.at c.loop-at.made (omega (arith, c.loop-at-test.false, c.loop-at.auto.at-end)) c.loop-at.invariant

pub bounds-levels-kept : goal.bounds-levels-kept
bounds-levels-kept c =
    let kept = c.args.kept.now in
    let at = c.loop-at.at in
    c.requires.below (get_or kept at 0) (at, slice_get-get_or kept at 0 c.loop-at-test.true)
