use Rattle.control_flow_theory.proofs.lowering_lemmas.flow.Linked.{not-faulty-fine}
use Rattle.control_flow_theory.proofs.lowering.what_is_not_faulty_meets_no_fault.Goals as goal

pub returns : goal.returns
returns g c = not-faulty-fine
