use Rattle.control_flow_theory.proofs.graph_rules_lemmas.rules.Sounds.{sound-by-steps}
use Rattle.control_flow_theory.proofs.graph_rules.a_family_is_sound_by_its_steps.Goals as goal

pub returns : goal.returns
returns g c = sound-by-steps
