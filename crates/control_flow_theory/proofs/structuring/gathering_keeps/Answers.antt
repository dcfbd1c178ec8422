use Rattle.control_flow_theory.proofs.structuring_lemmas.gathering.Kept.{gathering-keeps}
use Rattle.control_flow_theory.proofs.structuring.gathering_keeps.Goals as goal

pub returns : goal.returns
returns g c = gathering-keeps
