use Rattle.control_flow_theory.proofs.lowering_lemmas.graphs.Pruned.{same-walks, kept-nodes-found}
use Rattle.control_flow_theory.proofs.lowering.unreached_nodes_make_no_difference.Goals as goal

pub returns-clause-walks : goal.returns-clause-walks
returns-clause-walks g c = λ acting left family keep reached range memory n. same-walks acting left family keep reached range memory n

pub returns-clause-nodes : goal.returns-clause-nodes
returns-clause-nodes g c = kept-nodes-found
