use Rattle.procedure_split.proofs.split_behaviour_lemmas.Named.{have-names}
use Rattle.procedure_split.proofs.split_behaviour.split_programs_have_names.Goals as goal

pub returns : goal.returns
returns c = have-names
