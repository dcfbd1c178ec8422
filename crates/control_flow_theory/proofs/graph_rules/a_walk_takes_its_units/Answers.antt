use Rattle.control_flow_theory.proofs.graph_rules_lemmas.rules.Sounds.{walk-takes, walks-tied}
use Rattle.control_flow_theory.proofs.graph_rules.a_walk_takes_its_units.Goals as goal

pub returns-clause-units : goal.returns-clause-units
returns-clause-units g c = walk-takes

pub returns-clause-tied : goal.returns-clause-tied
returns-clause-tied g c = walks-tied
