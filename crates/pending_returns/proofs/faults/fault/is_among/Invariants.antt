use Rattle.pending_returns.proofs.faults_lemmas.Standing.{NoneUpTo}
use Rattle.pending_returns.proofs.faults.fault.is_among.Given as goal

abbrev pub invariant-loop-other : goal.invariant-loop-other
invariant-loop-other l = NoneUpTo l.numbers l.number l.other-index
