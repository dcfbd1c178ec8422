use Rattle.control_flow_theory.proofs.structuring_lemmas.closing.ClosedEnding.{closed-ends, rules-end}
use Rattle.control_flow_theory.proofs.structuring.closing_ends.Goals as goal

pub returns-clause-one : goal.returns-clause-one
returns-clause-one c = closed-ends

pub returns-clause-none : goal.returns-clause-none
returns-clause-none c = rules-end
