use Rattle.end_to_end_laws.proofs.read_programs_lemmas.readable_parts_lemmas.Read.{read-stated}
use Rattle.end_to_end_laws.proofs.read_programs.readable_parts.programs_that_are_read_are_stated.Goals as goal

pub returns : goal.returns
returns c = read-stated
