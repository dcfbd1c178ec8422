use Rattle.procedure_split.proofs.split_behaviour_lemmas.Joined.{behave-alike}
use Rattle.procedure_split.proofs.split_behaviour.split_programs_behave_alike.Goals as goal

pub returns : goal.returns
returns c = behave-alike
