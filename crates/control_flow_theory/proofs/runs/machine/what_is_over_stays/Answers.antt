use Rattle.control_flow_theory.proofs.runs_lemmas.Machines.{iterate-stays, reaches-one}
use Rattle.control_flow_theory.proofs.runs.machine.what_is_over_stays.Goals as goal

pub returns-clause-stays : goal.returns-clause-stays
returns-clause-stays g c = iterate-stays

pub returns-clause-one : goal.returns-clause-one
returns-clause-one g c = reaches-one
