use Rattle.procedure_split.proofs.written_depth_lemmas.Seen.{list-agrees}
use Rattle.procedure_split.proofs.written_depth.statements_nest_as_control.Goals as goal

pub returns : goal.returns
returns c last list = list-agrees last list
