use Rattle.end_to_end_laws.proofs.read_programs_lemmas.whole_reading_lemmas.Whole.{read-whole}
use Rattle.end_to_end_laws.proofs.read_programs.whole_reading.programs_that_are_read_count_whole.Goals as goal

pub returns : goal.returns
returns c = read-whole
