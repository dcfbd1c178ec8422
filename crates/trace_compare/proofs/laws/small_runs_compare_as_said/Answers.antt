use Rattle.trace_compare.proofs.DifferingLemmas.{small_runs}
use Rattle.trace_compare.proofs.laws.small_runs_compare_as_said.Goals as goal

pub returns : goal.returns
returns c = small_runs
