use Rattle.overlap_trail.proofs.finding_lemmas.Hopping.{HopsSoFar}
use Rattle.overlap_trail.proofs.finding.hops.hops_of.Given as goal

abbrev pub invariant-loop-number : goal.invariant-loop-number
invariant-loop-number l = HopsSoFar l.table l.numbers l.chain.ranges.items l.chain.fault l.hops l.number
