use Rattle.control_flow_theory.proofs.graph_rules_lemmas.rules.Sounds.{prune-keeps}
use Rattle.control_flow_theory.proofs.graph_rules.prune_keeps.Goals as goal

pub returns : goal.returns
returns g c = prune-keeps
