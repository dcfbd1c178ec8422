use Rattle.overlap_trail.proofs.finding_lemmas.Needing.{HopsNeed}
use Rattle.overlap_trail.proofs.finding.pruning.need_of_hops.Given as goal

abbrev pub invariant-loop-number : goal.invariant-loop-number
invariant-loop-number l = HopsNeed l.count l.hops l.fn.needed.items l.needed.items l.number
