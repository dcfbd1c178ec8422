use Rattle.control_flow_theory.proofs.graph_rules_lemmas.rules.Sounds.{join-keeps}
use Rattle.control_flow_theory.proofs.graph_rules.join_keeps.Goals as goal

pub returns : goal.returns
returns g c = join-keeps
