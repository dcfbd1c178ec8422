use Rattle.program_points.proofs.paths_lemmas.Finding.{faulty-trail}
use Rattle.program_points.proofs.paths.laws.faulty_has_trail.Goals as goal

pub returns : goal.returns
returns c = λ never_first program main_is there faulty. faulty-trail never_first program main_is there faulty
