use Rattle.overlap_trail.proofs.finding_lemmas.Calling.{NoneIs}
use Rattle.overlap_trail.proofs.finding.chain.place_in.Given as goal

abbrev pub invariant-loop-at : goal.invariant-loop-at
invariant-loop-at l = NoneIs l.numbers l.number l.at
