use Rattle.procedure_split.proofs.lowered_arms_lemmas.Graphs.{split-nests}
use Rattle.procedure_split.proofs.lowered_arms.programs_split_nest_within_the_limit.Goals as goal

pub returns : goal.returns
returns c program made summary flow named split = split-nests program made summary flow named split
