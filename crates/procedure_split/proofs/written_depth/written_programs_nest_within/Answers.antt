use Rattle.procedure_split.proofs.written_depth_lemmas.Whole.{program-below}
use Rattle.procedure_split.proofs.written_depth.written_programs_nest_within.Goals as goal

pub returns : goal.returns
returns c naming limit procedures program is each = program-below naming limit procedures program is each
