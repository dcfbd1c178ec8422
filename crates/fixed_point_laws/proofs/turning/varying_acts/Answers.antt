use Rattle.fixed_point_laws.proofs.TurningLemmas.{acts}
use Rattle.fixed_point_laws.proofs.turning.varying_acts.Goals as goal

pub returns : goal.returns
returns c = acts
