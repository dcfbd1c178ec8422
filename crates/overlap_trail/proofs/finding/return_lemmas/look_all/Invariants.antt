use Rattle.overlap_trail.specs.finding.ReturnLemmas.{Knows}
use Rattle.overlap_trail.proofs.finding.return_lemmas.look_all.Given as goal

abbrev pub invariant-loop-at : goal.invariant-loop-at
invariant-loop-at l = Knows l.table l.known.lemmas l.known.numbers.items
