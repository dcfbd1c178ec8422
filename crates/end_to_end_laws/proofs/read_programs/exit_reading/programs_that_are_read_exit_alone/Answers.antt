use Rattle.end_to_end_laws.proofs.read_programs_lemmas.exit_reading_lemmas.Alone.{read-alone}
use Rattle.end_to_end_laws.proofs.read_programs.exit_reading.programs_that_are_read_exit_alone.Goals as goal

pub returns : goal.returns
returns c = read-alone
