use Rattle.std.proofs.Common.{get_or, refl, ◌∙◌, arith}
use Rattle.std.proofs.lemmas.Option.{slice_get-get_or}
use Rattle.pending_returns.proofs.Leveling.{adds-none, adds-more, adds-all}
use Rattle.pending_returns.proofs.calling.visit_calls.Goals as goal

pub visit-requires-clause-room : goal.visit-requires-clause-room
visit-requires-clause-room c =
    let calls = c.args.calls.now in
    let i = c.loop-call.call-index in
    let here = slice_get-get_or calls i 0 c.loop-call-test.true in
    omega (arith, c.requires.below (get_or calls i 0) (i, here), c.loop-call.invariant.size)

pub loop-call-init : goal.loop-call-init
loop-call-init c = record { adds = adds-none c.args.calls.now c.args.reach.now.places.items; marked = c.requires.marked; size = refl }

pub loop-call-preserved : goal.loop-call-preserved
loop-call-preserved c =
    let calls = c.args.calls.now in
    let i = c.loop-call.call-index in
    record {
      adds = adds-more calls i (get_or calls i 0) c.args.reach.now.places.items c.loop-call.reach.places.items c.visit.new.self.places.items (slice_get-get_or calls i 0 c.loop-call-test.true) c.loop-call.invariant.adds c.in_ok-visit.ensures.adds;
      marked = c.in_ok-visit.ensures.marked;
      size = c.in_ok-visit.ensures.size ∙ c.loop-call.invariant.size;
    }

pub returns-clause-adds : goal.returns-clause-adds
returns-clause-adds c = adds-all c.args.calls.now c.loop-call.call-index c.args.reach.now.places.items c.loop-call.reach.places.items c.loop-call-test.false c.loop-call.invariant.adds
