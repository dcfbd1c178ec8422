use Rattle.fixed_point_laws.proofs.FaultlessLemmas.{are-faultless}
use Rattle.fixed_point_laws.proofs.faultless.structured_programs_are_faultless.Goals as goal

pub returns : goal.returns
returns c = are-faultless
