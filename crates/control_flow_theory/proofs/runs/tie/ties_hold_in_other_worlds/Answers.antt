use Rattle.control_flow_theory.proofs.runs_lemmas.Ties.{tied-at}
use Rattle.control_flow_theory.proofs.runs.tie.ties_hold_in_other_worlds.Goals as goal

pub returns : goal.returns
returns g c = tied-at
