use Rattle.source_pairs.proofs.CutLemmas.{cut-uncut, cuts-first, cuts-second}
use Rattle.source_pairs.proofs.PairLemmas.{pairs-one}
use Rattle.source_pairs.proofs.laws.pairs_are_read_one_way.Goals as goal

pub returns-clause-cuts : goal.returns-clause-cuts
returns-clause-cuts c = record { first = cuts-first; second = cuts-second; none = cut-uncut }

pub returns-clause-pairs : goal.returns-clause-pairs
returns-clause-pairs c = pairs-one
