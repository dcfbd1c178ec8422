use Rattle.end_to_end_laws.proofs.read_programs_lemmas.readable_parts_lemmas.Read.{read-statuses}
use Rattle.end_to_end_laws.proofs.read_programs.readable_parts.programs_that_are_read_have_fit_statuses.Goals as goal

pub returns : goal.returns
returns c = read-statuses
