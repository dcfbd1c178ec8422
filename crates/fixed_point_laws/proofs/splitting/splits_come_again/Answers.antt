use Rattle.fixed_point_laws.proofs.SplittingLemmas.{come-again, keep-control}
use Rattle.fixed_point_laws.proofs.splitting.splits_come_again.Goals as goal

pub returns-clause-control : goal.returns-clause-control
returns-clause-control c = keep-control

pub returns-clause-again : goal.returns-clause-again
returns-clause-again c = come-again
