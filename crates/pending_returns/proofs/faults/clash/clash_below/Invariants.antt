use Rattle.pending_returns.proofs.faults_lemmas.Standing.{FineUpTo}
use Rattle.pending_returns.proofs.faults.clash.clash_below.Given as goal

abbrev pub invariant-loop-at : goal.invariant-loop-at
invariant-loop-at l = FineUpTo l.levels l.reach.places.items l.end l.at
