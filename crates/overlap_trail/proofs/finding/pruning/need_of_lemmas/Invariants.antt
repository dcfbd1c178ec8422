use Rattle.overlap_trail.proofs.finding_lemmas.Needing.{LemmasNeed}
use Rattle.overlap_trail.proofs.finding.pruning.need_of_lemmas.Given as goal

abbrev pub invariant-loop-number : goal.invariant-loop-number
invariant-loop-number l = LemmasNeed l.lemmas l.fn.needed.items l.needed.items l.number
