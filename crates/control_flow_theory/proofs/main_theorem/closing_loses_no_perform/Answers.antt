use Rattle.control_flow_theory.proofs.main_theorem_lemmas.calls.CallsKept.{closed-calls}
use Rattle.control_flow_theory.proofs.main_theorem_lemmas.calls.PerformedProcedures.{closed-performed}
use Rattle.control_flow_theory.proofs.main_theorem.closing_loses_no_perform.Goals as goal

pub returns-clause-node : goal.returns-clause-node
returns-clause-node c = closed-calls

pub returns-clause-order : goal.returns-clause-order
returns-clause-order c = closed-performed
