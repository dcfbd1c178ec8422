use Rattle.edit_fields.proofs.PrintedMasksAreRead as law
use Rattle.edit_fields.proofs.laws.printed_masks_are_read.Goals as goal

pub returns : goal.returns
returns c = law.printed_masks_are_read
