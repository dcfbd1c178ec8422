use Rattle.control_flow_theory.proofs.structuring_lemmas.gathering.Kept.{exits-keep, node-exits-keep, exits-graph-keeps, targets-all-rise}
use Rattle.control_flow_theory.proofs.structuring.exits_keep.Goals as goal

pub returns-clause-any : goal.returns-clause-any
returns-clause-any g c = exits-keep

pub returns-clause-own : goal.returns-clause-own
returns-clause-own g c = node-exits-keep

pub returns-clause-graph : goal.returns-clause-graph
returns-clause-graph g c = exits-graph-keeps

pub returns-clause-rise : goal.returns-clause-rise
returns-clause-rise g c = targets-all-rise
