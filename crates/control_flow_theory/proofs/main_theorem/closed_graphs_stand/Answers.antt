use Rattle.control_flow_theory.proofs.main_theorem_lemmas.graphs.LoweredStand.{closed-graphs-stand}
use Rattle.control_flow_theory.proofs.main_theorem.closed_graphs_stand.Goals as goal

pub returns : goal.returns
returns c = closed-graphs-stand
