use Rattle.trace_compare.proofs.DifferingLemmas.{each_has, only_one}
use Rattle.trace_compare.proofs.laws.two_runs_have_one_answer.Goals as goal

pub returns-clause-some : goal.returns-clause-some
returns-clause-some c = each_has

pub returns-clause-one : goal.returns-clause-one
returns-clause-one c = only_one
