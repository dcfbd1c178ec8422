use Rattle.edit_fields.proofs.LightPenLemmas.{light_is_edited}
use Rattle.edit_fields.proofs.laws.light_pens_are_enough.Goals as goal

pub returns : goal.returns
returns c = light_is_edited
