use Rattle.end_to_end_laws.proofs.read_programs_lemmas.fit_reading_lemmas.Read.{read-fit}
use Rattle.end_to_end_laws.proofs.read_programs.fit_reading.entries_that_are_read_fit.Goals as goal

pub returns : goal.returns
returns c = read-fit
