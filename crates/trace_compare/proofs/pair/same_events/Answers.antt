use Rattle.std.proofs.Common.{◌∙◌, ap, arith, length, min, sym}
use Rattle.trace_compare.specs.Event.{event_of}
use Rattle.trace_compare.specs.Side.{pending_of}
use Rattle.trace_compare.proofs.NextLemmas.{found_all, found_differ, found_step, past_one}
use Rattle.trace_compare.proofs.pair.same_events.Goals as goal

pub loop-at-preserved : goal.loop-at-preserved
loop-at-preserved c =
    found_step (pending_of c.args.first.now) (pending_of c.args.second.now) c.loop-at.at (event_of c.event.result) (event_of c.event-in-loop-at.result) c.event.ensures c.event-in-loop-at.ensures
    (sym c.same_event.ensures ∙ c.if-not-same_event.false) c.loop-at.invariant

pub returns-then-not-same_event : goal.returns-then-not-same_event
returns-then-not-same_event c =
    found_differ (pending_of c.args.first.now) (pending_of c.args.second.now) c.loop-at.at (event_of c.event.result) (event_of c.event-in-loop-at.result) c.event.ensures c.event-in-loop-at.ensures
    (sym c.same_event.ensures ∙ c.if-not-same_event.true) c.loop-at.invariant

pub returns : goal.returns
returns c =
    let short = c.min-count.ensures ∙ ap (λ n. min n c.pending-2.result) c.pending.ensures ∙ ap (min (length (pending_of c.args.first.now))) c.pending-2.ensures in
    let all = found_all (pending_of c.args.first.now) (pending_of c.args.second.now) c.loop-at.at (past_one c.min-count.result c.loop-at.at (pending_of c.args.first.now) (pending_of c.args.second.now) short c.loop-at-test.false) c.loop-at.invariant in
    omega (arith, all, c.loop-at.auto.at-end, c.loop-at-test.false)
