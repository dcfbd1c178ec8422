use Rattle.edit_fields.proofs.MasksAreWrittenOut as law
use Rattle.edit_fields.proofs.laws.masks_are_written_out.Goals as goal

pub returns : goal.returns
returns c = law.masks_are_written_out
