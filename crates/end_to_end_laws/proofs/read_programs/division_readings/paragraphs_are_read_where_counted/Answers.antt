use Rattle.end_to_end_laws.proofs.read_programs_lemmas.division_readings_lemmas.Begin.{read-where-counted}
use Rattle.end_to_end_laws.proofs.read_programs.division_readings.paragraphs_are_read_where_counted.Goals as goal

pub returns : goal.returns
returns c tokens draft end e = read-where-counted tokens draft end e
