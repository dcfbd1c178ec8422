use Rattle.program_points.proofs.paths_lemmas.Showing.{accepted-faulty}
use Rattle.program_points.proofs.paths.laws.accepted_is_faulty.Goals as goal

pub returns : goal.returns
returns c = λ never_first program trail accepted. accepted-faulty never_first program trail accepted
