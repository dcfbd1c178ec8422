use Rattle.program_points.proofs.machine_paths_lemmas.SameFaults.{faulty-here}
use Rattle.program_points.proofs.machine_paths_lemmas.Lifting.{faulty-there}
use Rattle.program_points.proofs.machine_paths.faulty_is_the_theorys.Goals as goal

pub returns : goal.returns
returns c = λ told program source some. (faulty-here told program source some, faulty-there told program source some)
