use Rattle.trace_compare.proofs.DifferingLemmas.{more_keep}
use Rattle.trace_compare.proofs.laws.more_steps_keep_the_answer.Goals as goal

pub returns : goal.returns
returns g c = more_keep
