use Rattle.cob_store.proofs.PutLemmas.{binary_numbers_are_read, packed_numbers_are_read}
use Rattle.cob_store.proofs.laws.numbers_that_are_put_are_read.Goals as goal

pub returns-clause-binary : goal.returns-clause-binary
returns-clause-binary c = binary_numbers_are_read

pub returns-clause-packed : goal.returns-clause-packed
returns-clause-packed c = packed_numbers_are_read
