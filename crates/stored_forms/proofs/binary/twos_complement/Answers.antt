use Rattle.std.proofs.Common.{arith, ap, unsigned_abs, to_z-of_z}
use Rattle.std.proofs.lemmas.Int.{ints}
use Rattle.stored_forms.proofs.ItemLemmas.{count_small}
use Rattle.stored_forms.proofs.binary.twos_complement.Goals as goal

pub overflow_cast-result : goal.overflow_cast-result
overflow_cast-result c = omega (arith, ints, count_small c.args.size c.requires.size)

pub overflow_cast-result-else-value-lt0 : goal.overflow_cast-result-else-value-lt0
overflow_cast-result-else-value-lt0 c =
    let read = ap unsigned_abs (to_z-of_z c.ranges.value) in
    omega (arith, count_small c.args.size c.requires.size, read)
