use Rattle.pending_returns.proofs.faults_lemmas.Led.{LedSoFar}
use Rattle.pending_returns.proofs.faults.leading.callees_from.Given as goal

abbrev pub invariant-loop-at : goal.invariant-loop-at
invariant-loop-at l = LedSoFar l.levels l.base l.reach.places.items l.reach.marks.items l.at
