use Rattle.source_pairs.proofs.CutLemmas.{NoneBefore}
use Rattle.source_pairs.proofs.cut.cut_in_two.Given as goal

abbrev pub invariant-loop-at : goal.invariant-loop-at
invariant-loop-at l = NoneBefore l.bytes l.at l.at_line
