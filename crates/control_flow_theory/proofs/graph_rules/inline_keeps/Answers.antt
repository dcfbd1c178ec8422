use Rattle.control_flow_theory.proofs.graph_rules_lemmas.rules.Sounds.{inline-keeps}
use Rattle.control_flow_theory.proofs.graph_rules.inline_keeps.Goals as goal

pub returns : goal.returns
returns g c = inline-keeps
