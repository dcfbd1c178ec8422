use Rattle.std.proofs.Common.{ℕ, ◌^◌, arith, ap, unsigned_abs, to_z-of_z}
use Rattle.stored_forms.proofs.BinaryLemmas.{held-room}
use Rattle.stored_forms.proofs.binary.binary_write.Goals as goal

pub twos_complement-requires-clause-value : goal.twos_complement-requires-clause-value
twos_complement-requires-clause-value c =
    let read = ap unsigned_abs (to_z-of_z c.ranges.value) in
    let size = ap (λ (n : ℕ). 256 ^ n) c.requires.size in
    omega (arith, read, size, held-room c.args.value c.args.digits c.args.signed c.requires.digits c.requires.value)
