use Rattle.control_flow_theory.proofs.expressible_graphs_lemmas.Graphs.{served-graphs}
use Rattle.control_flow_theory.proofs.expressible_graphs.served_sources_have_served_graphs.Goals as goal

pub returns : goal.returns
returns c = served-graphs
