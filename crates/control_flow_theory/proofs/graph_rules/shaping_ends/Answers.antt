use Rattle.control_flow_theory.proofs.graph_rules_lemmas.shapes.Ending.{shaped-ends}
use Rattle.control_flow_theory.proofs.graph_rules_lemmas.shapes.Closed.{shaped-closed}
use Rattle.control_flow_theory.proofs.graph_rules_lemmas.shapes.Single.{single-last}
use Rattle.control_flow_theory.proofs.graph_rules.shaping_ends.Goals as goal

pub returns-clause-ends : goal.returns-clause-ends
returns-clause-ends c = shaped-ends

pub returns-clause-closed : goal.returns-clause-closed
returns-clause-closed c = shaped-closed

pub returns-clause-single : goal.returns-clause-single
returns-clause-single c = single-last
