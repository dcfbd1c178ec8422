use Rattle.control_flow_theory.proofs.runs_lemmas.Machines.{machine-steady, reaches-covers}
use Rattle.control_flow_theory.proofs.runs.machine.more_steps_show_more.Goals as goal

pub returns-clause-steady : goal.returns-clause-steady
returns-clause-steady g c = machine-steady

pub returns-clause-reached : goal.returns-clause-reached
returns-clause-reached g c = reaches-covers
