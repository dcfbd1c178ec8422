use Rattle.control_flow_theory.proofs.structuring_lemmas.gathering.Kept.{flag-keeps}
use Rattle.control_flow_theory.proofs.structuring.flag_keeps.Goals as goal

pub returns : goal.returns
returns g c = flag-keeps
