use Rattle.fixed_point_laws.proofs.CountingLemmas.{are-counted}
use Rattle.fixed_point_laws.proofs.counting.procedures_are_counted.Goals as goal

pub returns : goal.returns
returns c = are-counted
