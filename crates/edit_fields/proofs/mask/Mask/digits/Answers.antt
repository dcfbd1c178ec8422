use Rattle.edit_fields.proofs.HeldMasks.{held_number}
use Rattle.edit_fields.proofs.mask.Mask.digits.Goals as goal

pub returns-clause-number : goal.returns-clause-number
returns-clause-number c = held_number c.self.inside.symbols c.self.inside.shape c.self.invariant.mask c.self.invariant.shape
