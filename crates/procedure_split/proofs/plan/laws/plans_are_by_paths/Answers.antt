use Rattle.procedure_split.proofs.plan_lemmas.ByPaths.{planned}
use Rattle.procedure_split.proofs.plan.laws.plans_are_by_paths.Goals as goal

pub returns : goal.returns
returns c told program summary returning order source some has fine is plan = planned told program source some fine summary is returning order plan
