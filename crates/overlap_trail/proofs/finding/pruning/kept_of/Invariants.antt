use Rattle.overlap_trail.proofs.finding_lemmas.Shortening.{KeepsSoFar}
use Rattle.overlap_trail.proofs.finding.pruning.kept_of.Given as goal

abbrev pub invariant-loop-number : goal.invariant-loop-number
invariant-loop-number l = KeepsSoFar l.lemmas l.needed l.kept.lemmas l.kept.ranks.items l.number
