use Rattle.edit_fields.proofs.NumbersAreReadBack as law
use Rattle.edit_fields.proofs.laws.numbers_are_read_back.Goals as goal

pub returns : goal.returns
returns c = law.numbers_are_read_back
