use Rattle.fixed_point_laws.proofs.LimitLemmas.{pass-none}
use Rattle.fixed_point_laws.proofs.limits.splits_pass_no_limit.Goals as goal

pub returns : goal.returns
returns c = pass-none
