use Rattle.procedure_split.proofs.plan_lemmas.CobolPlans.{cobol-planned}
use Rattle.procedure_split.proofs.plan.laws.cobol_plans_are_by_paths.Goals as goal

pub returns : goal.returns
returns c program summary returning order items paragraphs some fine is plan = cobol-planned program summary returning order items paragraphs some fine is plan
