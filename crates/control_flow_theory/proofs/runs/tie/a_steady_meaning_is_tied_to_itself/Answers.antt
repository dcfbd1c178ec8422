use Rattle.control_flow_theory.proofs.runs_lemmas.Ties.{tied-refl}
use Rattle.control_flow_theory.proofs.runs.tie.a_steady_meaning_is_tied_to_itself.Goals as goal

pub returns : goal.returns
returns g c = tied-refl
