use Rattle.fixed_point_laws.proofs.PlacingLemmas.{names-again}
use Rattle.fixed_point_laws.proofs.placing.names_are_labels.Goals as goal

pub returns : goal.returns
returns c = names-again
