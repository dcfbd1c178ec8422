use Rattle.procedure_split.proofs.split_depth_lemmas.Split.{split-within}
use Rattle.procedure_split.proofs.split_depth.split_programs_nest_within.Goals as goal

pub returns : goal.returns
returns c program made summary flow split have = split-within program made summary flow split have
