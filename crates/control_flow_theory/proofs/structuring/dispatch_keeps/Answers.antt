use Rattle.control_flow_theory.proofs.structuring_lemmas.gathering.Kept.{dispatch-keeps, dispatch-graph-keeps}
use Rattle.control_flow_theory.proofs.structuring.dispatch_keeps.Goals as goal

pub returns-clause-nodes : goal.returns-clause-nodes
returns-clause-nodes g c = dispatch-keeps

pub returns-clause-graph : goal.returns-clause-graph
returns-clause-graph g c = dispatch-graph-keeps
