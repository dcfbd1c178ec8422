use Rattle.overlap_trail.proofs.finding_lemmas.Calling.{NoneEnds}
use Rattle.overlap_trail.proofs.finding.chain.is_pending.Given as goal

abbrev pub invariant-loop-range : goal.invariant-loop-range
invariant-loop-range l = NoneEnds l.ranges l.end l.range-index
