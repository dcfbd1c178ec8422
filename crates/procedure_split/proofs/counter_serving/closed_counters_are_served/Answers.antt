use Rattle.procedure_split.proofs.counter_serving_lemmas.Served.{counters-served}
use Rattle.procedure_split.proofs.counter_serving.closed_counters_are_served.Goals as goal

pub returns : goal.returns
returns c = counters-served
