use Rattle.stored_forms.proofs.PackedLemmas.{ArePairsTo}
use Rattle.stored_forms.proofs.packed.number_of_pairs.Given as goal

abbrev pub invariant-loop-byte : goal.invariant-loop-byte
invariant-loop-byte l = ArePairsTo l.bytes l.byte-index l.number
