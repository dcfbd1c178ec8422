use Rattle.control_flow_theory.proofs.runs_lemmas.Ties.{paced-tied}
use Rattle.control_flow_theory.proofs.runs.tie.paced_is_tied.Goals as goal

pub returns : goal.returns
returns g c = paced-tied
