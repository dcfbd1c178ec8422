use Rattle.procedure_split.proofs.kept_arms_lemmas.Split.{graphs-within}
use Rattle.procedure_split.proofs.kept_arms.split_programs_of_graphs_nest_within.Goals as goal

pub returns : goal.returns
returns c program made summary flow split have = graphs-within program made summary flow split have
