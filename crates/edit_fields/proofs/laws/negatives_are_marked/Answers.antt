use Rattle.edit_fields.proofs.NegativesAreMarked as law
use Rattle.edit_fields.proofs.laws.negatives_are_marked.Goals as goal

pub returns : goal.returns
returns c = law.negatives_are_marked
