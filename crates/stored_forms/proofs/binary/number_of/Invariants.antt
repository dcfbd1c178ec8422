use Rattle.stored_forms.proofs.BinaryLemmas.{IsReadTo}
use Rattle.stored_forms.proofs.binary.number_of.Given as goal

abbrev pub invariant-loop-byte : goal.invariant-loop-byte
invariant-loop-byte l = IsReadTo l.bytes l.byte-index l.number
