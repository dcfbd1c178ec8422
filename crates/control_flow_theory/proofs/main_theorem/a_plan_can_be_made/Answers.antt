use Rattle.control_flow_theory.proofs.main_theorem_lemmas.PlanExample.{plan-made, plan-followed}
use Rattle.control_flow_theory.proofs.main_theorem.a_plan_can_be_made.Goals as goal

pub returns-clause-plan : goal.returns-clause-plan
returns-clause-plan g c = plan-made

pub returns-clause-result : goal.returns-clause-result
returns-clause-result g c = plan-followed
