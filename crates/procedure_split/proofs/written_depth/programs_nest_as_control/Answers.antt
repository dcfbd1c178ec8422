use Rattle.procedure_split.proofs.written_depth_lemmas.Seen.{program-agrees}
use Rattle.procedure_split.proofs.written_depth.programs_nest_as_control.Goals as goal

pub returns : goal.returns
returns c program = program-agrees program
