use Rattle.std.proofs.Common.{arith}
use Rattle.stored_forms.proofs.PackedLemmas.{pairs-fit, pairs-short}
use Rattle.stored_forms.proofs.packed.number_of_pairs.Goals as goal

pub overflow_mul-number : goal.overflow_mul-number
overflow_mul-number c =
    omega (arith, pairs-fit c.loop-byte.byte-index c.loop-byte.number (omega (arith, c.loop-byte-test.true, c.requires)) c.loop-byte.invariant.below)

pub overflow_add-number-in-loop-byte : goal.overflow_add-number-in-loop-byte
overflow_add-number-in-loop-byte c =
    omega (arith, c.if-high-gt9.false, c.if-low-gt9.false, pairs-fit c.loop-byte.byte-index c.loop-byte.number (omega (arith, c.loop-byte-test.true, c.requires)) c.loop-byte.invariant.below)

pub returns-clause-short : goal.returns-clause-short
returns-clause-short c =
    pairs-short c.loop-byte.byte-index c.loop-byte.number (omega (arith, c.requires, c.loop-byte.auto.byte-index-end)) c.loop-byte.invariant.below
