use Rattle.procedure_split.proofs.plan_lemmas.CobolPlans.{has-plan}
use Rattle.procedure_split.proofs.plan.laws.cobol_programs_have_plans.Goals as goal

pub returns : goal.returns
returns c = has-plan
