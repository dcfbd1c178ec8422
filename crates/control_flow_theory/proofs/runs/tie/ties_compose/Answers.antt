use Rattle.control_flow_theory.proofs.runs_lemmas.Ties.{tied-trans}
use Rattle.control_flow_theory.proofs.runs.tie.ties_compose.Goals as goal

pub returns : goal.returns
returns g c = tied-trans
