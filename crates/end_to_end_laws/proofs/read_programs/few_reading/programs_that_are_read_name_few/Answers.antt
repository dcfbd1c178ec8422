use Rattle.end_to_end_laws.proofs.read_programs_lemmas.few_reading_lemmas.Few.{read-few}
use Rattle.end_to_end_laws.proofs.read_programs.few_reading.programs_that_are_read_name_few.Goals as goal

pub returns : goal.returns
returns c = read-few
