use Rattle.control_flow_theory.proofs.rendering_lemmas.WholeExample.{jump-restructured}
use Rattle.control_flow_theory.proofs.rendering.a_small_program_is_restructured.Goals as goal

pub returns : goal.returns
returns c = jump-restructured
