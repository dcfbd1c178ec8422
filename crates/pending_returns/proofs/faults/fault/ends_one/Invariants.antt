use Rattle.pending_returns.proofs.faults_lemmas.Standing.{NoneEnds}
use Rattle.pending_returns.proofs.faults.fault.ends_one.Given as goal

abbrev pub invariant-loop-number : goal.invariant-loop-number
invariant-loop-number l = NoneEnds l.levels l.numbers l.end l.number-index
