use Rattle.control_flow_theory.proofs.main_theorem_lemmas.calls.CallsReached.{called-stands}
use Rattle.control_flow_theory.proofs.main_theorem_lemmas.calls.CalledEarlier.{order-is-of-graphs}
use Rattle.control_flow_theory.proofs.main_theorem.what_is_called_stands.Goals as goal

pub returns-clause-node : goal.returns-clause-node
returns-clause-node c = called-stands

pub returns-clause-order : goal.returns-clause-order
returns-clause-order c = order-is-of-graphs
