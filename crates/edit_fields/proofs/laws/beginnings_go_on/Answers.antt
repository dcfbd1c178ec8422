use Rattle.edit_fields.proofs.BeginningsGoOn as law
use Rattle.edit_fields.proofs.laws.beginnings_go_on.Goals as goal

pub returns : goal.returns
returns c = law.beginnings_go_on
