use Rattle.pending_returns.proofs.Leveling.{LedSoFar}
use Rattle.pending_returns.proofs.calling.transitive_callees.Given as goal

abbrev pub invariant-loop-at : goal.invariant-loop-at
invariant-loop-at l = LedSoFar l.levels l.reach.places.items l.reach.marks.items l.at
