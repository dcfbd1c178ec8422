use Rattle.structured_run_laws.proofs.RunLemmas.{are-reached, are-shown}
use Rattle.structured_run_laws.proofs.runs.runs_show_nested_meanings.Goals as goal

pub returns-clause-shown : goal.returns-clause-shown
returns-clause-shown c = are-shown

pub returns-clause-reached : goal.returns-clause-reached
returns-clause-reached c = are-reached
