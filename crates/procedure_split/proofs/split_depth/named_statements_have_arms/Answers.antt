use Rattle.procedure_split.proofs.split_depth_lemmas.Named.{list-has}
use Rattle.procedure_split.proofs.split_depth.named_statements_have_arms.Goals as goal

pub returns : goal.returns
returns c counts last list h = list-has counts last list h
