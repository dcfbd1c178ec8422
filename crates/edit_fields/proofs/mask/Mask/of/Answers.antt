use Rattle.std.proofs.Common.{◌≡◌, arith}
use Rattle.edit_fields.specs.Edited.{shown_size}
use Rattle.edit_fields.proofs.HeldMasks.{held_short, shown_short}
use Rattle.edit_fields.proofs.mask.Mask.of.Goals as goal

pub overflow_cast-size : goal.overflow_cast-size
overflow_cast-size c =
    let size : c.mask_size-size.result ≡ shown_size c.args.symbols = cc (c.mask_size-size.ensures, c.as_slice-2.ensures.value) in
    omega (arith, size, shown_short c.args.symbols, held_short c.args.symbols c.requires)
