use Rattle.control_flow_theory.proofs.semantics_agree_lemmas.NoFallThrough.{never-falls}
use Rattle.control_flow_theory.proofs.semantics_agree.a_structured_program_never_falls_through.Goals as goal

pub returns : goal.returns
returns g c = never-falls
