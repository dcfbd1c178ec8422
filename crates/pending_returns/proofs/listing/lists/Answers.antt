use Rattle.std.proofs.Common.{false, get_or, arith}
use Rattle.std.proofs.lemmas.Option.{slice_get-get_or}
use Rattle.pending_returns.proofs.Flags.{lists-none, lists-step, lists-all}
use Rattle.pending_returns.proofs.listing.lists.Goals as goal

pub loop-at-init : goal.loop-at-init
loop-at-init c = lists-none c.args.flags.now _ c.new-numbers.ensures

pub loop-at-preserved : goal.loop-at-preserved
loop-at-preserved c =
    let flags = c.args.flags.now in
    let at = c.loop-at.at in
    lists-step flags at c.loop-at.numbers c.add_if.new.numbers (get_or flags at false) (slice_get-get_or flags at false (omega (arith, c.loop-at-test.true)))
    (λ on. c.in_ok-add_if.ensures.on on) (λ off. c.in_ok-add_if.ensures.off off) c.loop-at.invariant

pub returns : goal.returns
returns c = lists-all c.args.flags.now c.loop-at.at c.loop-at.numbers (omega (arith, c.loop-at-test.false)) c.loop-at.invariant
