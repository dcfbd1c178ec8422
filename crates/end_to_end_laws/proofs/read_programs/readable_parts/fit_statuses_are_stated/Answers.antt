use Rattle.end_to_end_laws.proofs.read_programs_lemmas.readable_parts_lemmas.Read.{fit-stated}
use Rattle.end_to_end_laws.proofs.read_programs.readable_parts.fit_statuses_are_stated.Goals as goal

pub returns : goal.returns
returns c = fit-stated
