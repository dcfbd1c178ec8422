use Rattle.control_flow_theory.proofs.lowering_lemmas.flow.Called.{reached-calls}
use Rattle.control_flow_theory.proofs.lowering.reached_nodes_perform_what_is_called.Goals as goal

pub returns : goal.returns
returns c = λ told program source exact range lt label reached. reached-calls told program source exact range lt label reached
