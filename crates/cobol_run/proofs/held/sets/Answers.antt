use Rattle.cobol_run.proofs.HeldLemmas.{sets_as}
use Rattle.cobol_run.specs.Plan.{declared_by}
use Rattle.cobol_run.proofs.held.sets.Goals as goal

pub returns : goal.returns
returns c = sets_as (declared_by c.args.plan.now) _ _ _ _ _ _ _ c.as_slice.ensures c.from_ref.ensures.value c.moved.ensures.does
