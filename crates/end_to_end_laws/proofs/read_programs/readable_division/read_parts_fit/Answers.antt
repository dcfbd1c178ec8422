use Rattle.end_to_end_laws.proofs.read_programs_lemmas.readable_division_lemmas.Joint.{read-fit}
use Rattle.end_to_end_laws.proofs.read_programs.readable_division.read_parts_fit.Goals as goal

pub returns : goal.returns
returns c = read-fit
