use Rattle.control_flow_theory.proofs.runs_lemmas.Machines.{iterate-add, reaches-step, reaches-trans}
use Rattle.control_flow_theory.proofs.runs.machine.runs_compose.Goals as goal

pub returns-clause-counted : goal.returns-clause-counted
returns-clause-counted g c = iterate-add

pub returns-clause-stepped : goal.returns-clause-stepped
returns-clause-stepped g c = reaches-step

pub returns-clause-composes : goal.returns-clause-composes
returns-clause-composes g c = reaches-trans
