use Rattle.overlap_trail.proofs.finding_lemmas.Needing.{NeedSoFar}
use Rattle.overlap_trail.proofs.finding.pruning.need.Given as goal

abbrev pub invariant-loop-number : goal.invariant-loop-number
invariant-loop-number l = NeedSoFar l.until l.moves l.fn.needed.items l.needed.items l.number
