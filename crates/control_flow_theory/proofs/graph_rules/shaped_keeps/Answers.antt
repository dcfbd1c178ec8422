use Rattle.control_flow_theory.proofs.graph_rules_lemmas.shapes.Shaped.{all-before, main-tied}
use Rattle.control_flow_theory.proofs.graph_rules.shaped_keeps.Goals as goal

pub returns-clause-all : goal.returns-clause-all
returns-clause-all g c = λ acting left graphs order family sound. all-before acting left order order graphs family sound

pub returns-clause-main : goal.returns-clause-main
returns-clause-main g c = λ acting left graphs order family sound here. main-tied acting left order graphs family sound here
