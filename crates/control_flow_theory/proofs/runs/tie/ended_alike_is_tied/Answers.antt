use Rattle.control_flow_theory.proofs.runs_lemmas.Ties.{ended-tied}
use Rattle.control_flow_theory.proofs.runs.tie.ended_alike_is_tied.Goals as goal

pub returns : goal.returns
returns g c = ended-tied
