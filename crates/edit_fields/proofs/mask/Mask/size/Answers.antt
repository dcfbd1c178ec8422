use Rattle.std.proofs.Common.{◌≡◌, arith}
use Rattle.edit_fields.specs.Edited.{shown_size}
use Rattle.edit_fields.proofs.HeldMasks.{held_short, shown_short}
use Rattle.edit_fields.proofs.mask.Mask.size.Goals as goal

pub returns-clause-short : goal.returns-clause-short
returns-clause-short c =
    let size : c.from.result ≡ shown_size c.self.inside.symbols = cc (c.from.ensures, c.self.invariant.size) in
    omega (arith, size, shown_short c.self.inside.symbols, held_short c.self.inside.symbols c.self.invariant.mask)
