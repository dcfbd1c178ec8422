use Rattle.pending_returns.proofs.Leveling.{tells-level}
use Rattle.pending_returns.proofs.facts.level_of.Goals as goal

pub returns-clause-tells : goal.returns-clause-tells
returns-clause-tells c =
    let level = c.take.new.self in
    let does = c.in_ok-take.ensures in
    tells-level c.args.table.now c.args.returns.now c.args.range level.places.places.items level.calls.places.items c.as_slice.result.now level.ends.places.items c.as_slice-2.result.now c.in_ok-calls.calls c.in_ok-ends.ends
    does.reach c.as_slice.ensures.value c.as_slice-2.ensures.value does.calls does.ends c.in_ok-calls.ensures c.in_ok-ends.ensures
