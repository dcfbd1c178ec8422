use Rattle.round_trip.proofs.spelling_lemmas.expr_spelling_lemmas.Named.{references_are_found}
use Rattle.round_trip.proofs.spelling.expr_spelling.references_are_found.Goals as goal

pub returns : goal.returns
returns c = references_are_found
