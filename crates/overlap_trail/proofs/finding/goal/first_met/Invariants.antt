use Rattle.overlap_trail.proofs.finding_lemmas.Aiming.{NoneMetBefore}
use Rattle.overlap_trail.proofs.finding.goal.first_met.Given as goal

abbrev pub invariant-loop-at : goal.invariant-loop-at
invariant-loop-at l = NoneMetBefore l.table l.aim l.places l.at
