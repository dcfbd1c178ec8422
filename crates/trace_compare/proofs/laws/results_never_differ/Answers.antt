use Rattle.trace_compare.proofs.ResultLemmas.{compared_never_differ, never_differ}
use Rattle.trace_compare.proofs.laws.results_never_differ.Goals as goal

pub returns-clause-runs : goal.returns-clause-runs
returns-clause-runs c = never_differ

pub returns-clause-compared : goal.returns-clause-compared
returns-clause-compared c = compared_never_differ
