use Rattle.control_flow_theory.proofs.graph_rules_lemmas.rules.Sounds.{loop-keeps}
use Rattle.control_flow_theory.proofs.graph_rules.loop_keeps.Goals as goal

pub returns : goal.returns
returns g c = loop-keeps
