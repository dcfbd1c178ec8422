use Rattle.control_flow_theory.proofs.runs_lemmas.Machines.{simulated-tied}
use Rattle.control_flow_theory.proofs.runs.machine.simulated_is_tied.Goals as goal

pub returns : goal.returns
returns g c = λ a b grows_a grows_b simulates. simulated-tied a b g.R.Relation.related grows_a simulates grows_b
