use Rattle.std.proofs.Common.{◌∙◌, ap}
use Rattle.cobol_theory.specs.cobol_meaning.Acting.{answered}
use Rattle.cobol_run.specs.Plan.{declared_by, memory_in}
use Rattle.cobol_run.proofs.HeldLemmas.{augments_as}
use Rattle.cobol_run.proofs.held.augments.Goals as goal

pub returns : goal.returns
returns c = λ world. ap (answered (memory_in c.added-answer.new.store world)) c.went.ensures ∙ augments_as (declared_by c.args.plan.now) _ _ _ _ _ world _ c.as_slice.ensures c.added-answer.ensures
