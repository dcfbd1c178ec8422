use Rattle.std.proofs.Common.{arith, lit<}
use Rattle.stored_forms.proofs.BinaryLemmas.{read-fits}
use Rattle.stored_forms.proofs.binary.number_of.Goals as goal

pub overflow_mul-number : goal.overflow_mul-number
overflow_mul-number c =
    omega (arith, read-fits c.loop-byte.byte-index c.loop-byte.number 0 (omega (arith, c.loop-byte-test.true, c.requires)) c.loop-byte.invariant.below (lit< tt))
