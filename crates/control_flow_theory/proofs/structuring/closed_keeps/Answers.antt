use Rattle.control_flow_theory.proofs.structuring_lemmas.closing.AllClosed.{closed-keeps}
use Rattle.control_flow_theory.proofs.structuring.closed_keeps.Goals as goal

pub returns : goal.returns
returns g c = closed-keeps
