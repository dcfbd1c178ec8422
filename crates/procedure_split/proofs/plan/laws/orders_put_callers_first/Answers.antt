use Rattle.procedure_split.proofs.plan_lemmas.Ordering.{ordered}
use Rattle.procedure_split.proofs.plan.laws.orders_put_callers_first.Goals as goal

pub returns : goal.returns
returns c calls layered = ordered calls layered
