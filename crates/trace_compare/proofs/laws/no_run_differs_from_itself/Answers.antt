use Rattle.trace_compare.proofs.DifferingLemmas.{from_itself}
use Rattle.trace_compare.proofs.laws.no_run_differs_from_itself.Goals as goal

pub returns : goal.returns
returns c = from_itself
