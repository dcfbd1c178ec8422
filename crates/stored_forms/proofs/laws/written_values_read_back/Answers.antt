use Rattle.stored_forms.proofs.BinaryLemmas.{binary-back}
use Rattle.stored_forms.proofs.PackedLemmas.{packed-back}
use Rattle.stored_forms.proofs.laws.written_values_read_back.Goals as goal

pub returns-clause-binary : goal.returns-clause-binary
returns-clause-binary c = binary-back

pub returns-clause-packed : goal.returns-clause-packed
returns-clause-packed c = packed-back
