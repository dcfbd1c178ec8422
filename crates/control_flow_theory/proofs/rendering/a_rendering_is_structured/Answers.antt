use Rattle.control_flow_theory.proofs.rendering_lemmas.Structure.{rendered-structured}
use Rattle.control_flow_theory.proofs.rendering.a_rendering_is_structured.Goals as goal

pub returns : goal.returns
returns c = rendered-structured
