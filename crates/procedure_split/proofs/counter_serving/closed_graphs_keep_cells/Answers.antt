use Rattle.procedure_split.proofs.counter_serving_lemmas.Kept.{closed-keeps}
use Rattle.procedure_split.proofs.counter_serving.closed_graphs_keep_cells.Goals as goal

pub returns : goal.returns
returns c = closed-keeps
