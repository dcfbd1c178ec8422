use Rattle.fixed_point_laws.proofs.EnteringLemmas.{are-entered}
use Rattle.fixed_point_laws.proofs.entering.results_are_entered.Goals as goal

pub returns : goal.returns
returns c = are-entered
