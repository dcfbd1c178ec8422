use Rattle.control_flow_theory.proofs.graph_rules_lemmas.rules.Sounds.{tested-keeps}
use Rattle.control_flow_theory.proofs.graph_rules.tested_keeps.Goals as goal

pub returns : goal.returns
returns g c = tested-keeps
