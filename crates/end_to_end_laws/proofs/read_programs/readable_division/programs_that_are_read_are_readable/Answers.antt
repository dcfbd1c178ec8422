use Rattle.end_to_end_laws.proofs.read_programs_lemmas.readable_division_lemmas.Joint.{read-readable}
use Rattle.end_to_end_laws.proofs.read_programs.readable_division.programs_that_are_read_are_readable.Goals as goal

pub returns : goal.returns
returns c = read-readable
