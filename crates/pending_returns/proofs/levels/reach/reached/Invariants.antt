use Rattle.pending_returns.specs.levels.Reach.{IsSoFar}
use Rattle.pending_returns.proofs.levels.reach.reached.Given as goal

abbrev pub invariant-loop-at : goal.invariant-loop-at
invariant-loop-at l = IsSoFar l.table l.returns l.range l.reach.places.items l.reach.marks.items l.at
