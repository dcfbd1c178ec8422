use Rattle.end_to_end_laws.proofs.read_programs_lemmas.named_reading_lemmas.Whole.{read-named}
use Rattle.end_to_end_laws.proofs.read_programs.named_reading.programs_that_are_read_are_named.Goals as goal

pub returns : goal.returns
returns c = read-named
