use Rattle.restructure_asks.proofs.RunLawLemmas.{one-run, due-run}
use Rattle.restructure_asks.proofs.FilesLawLemmas.{one-run-on-files, due-run-on-files}
use Rattle.restructure_asks.proofs.laws.due_run_comes.Goals as goal

pub returns-clause-one : goal.returns-clause-one
returns-clause-one c = one-run

pub returns-clause-due : goal.returns-clause-due
returns-clause-due c = due-run

pub returns-clause-one_on_files : goal.returns-clause-one_on_files
returns-clause-one_on_files c = one-run-on-files

pub returns-clause-due_on_files : goal.returns-clause-due_on_files
returns-clause-due_on_files c = due-run-on-files
