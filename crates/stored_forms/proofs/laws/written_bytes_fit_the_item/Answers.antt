use Rattle.stored_forms.proofs.BinaryLemmas.{length-binary_bytes}
use Rattle.stored_forms.proofs.PackedLemmas.{halves-written, length-packed_bytes}
use Rattle.stored_forms.proofs.laws.written_bytes_fit_the_item.Goals as goal

pub returns-clause-binary : goal.returns-clause-binary
returns-clause-binary c = length-binary_bytes

pub returns-clause-packed : goal.returns-clause-packed
returns-clause-packed c = λ value digits signed held. length-packed_bytes value digits signed held.short

pub returns-clause-halves : goal.returns-clause-halves
returns-clause-halves c = halves-written
