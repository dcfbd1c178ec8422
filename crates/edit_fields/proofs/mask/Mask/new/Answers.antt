use Rattle.std.proofs.Common.{sym, ◌∙◌, subst}
use Rattle.edit_fields.specs.Mask.{IsHeldMask}
use Rattle.edit_fields.specs.Reading.{written_out}
use Rattle.edit_fields.proofs.HeldMasks.{held_of, held_short}
use Rattle.edit_fields.proofs.mask.Mask.new.Goals as goal

pub written_out-requires : goal.written_out-requires
written_out-requires c = held_short (written_out c.args.text.now) (held_of c.args.text.now (sym c.mask_fault.ensures ∙ c.in-None.is))

pub of-requires : goal.of-requires
of-requires c = subst IsHeldMask (sym c.written_out.ensures) (held_of c.args.text.now (sym c.mask_fault.ensures ∙ c.in-None.is))
