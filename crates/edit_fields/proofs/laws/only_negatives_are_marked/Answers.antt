use Rattle.edit_fields.proofs.OnlyNegativesAreMarked as law
use Rattle.edit_fields.proofs.laws.only_negatives_are_marked.Goals as goal

pub returns : goal.returns
returns c = law.only_negatives_are_marked
