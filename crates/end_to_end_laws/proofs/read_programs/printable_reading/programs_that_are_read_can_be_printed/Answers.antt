use Rattle.end_to_end_laws.proofs.read_programs_lemmas.printable_reading_lemmas.Whole.{read-printable}
use Rattle.end_to_end_laws.proofs.read_programs.printable_reading.programs_that_are_read_can_be_printed.Goals as goal

pub returns : goal.returns
returns c = read-printable
