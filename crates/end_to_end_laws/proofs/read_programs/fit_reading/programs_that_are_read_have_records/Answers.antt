use Rattle.end_to_end_laws.proofs.read_programs_lemmas.fit_reading_lemmas.Read.{read-recorded}
use Rattle.end_to_end_laws.proofs.read_programs.fit_reading.programs_that_are_read_have_records.Goals as goal

pub returns : goal.returns
returns c = read-recorded
