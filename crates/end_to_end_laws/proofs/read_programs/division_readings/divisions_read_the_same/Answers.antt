use Rattle.end_to_end_laws.proofs.read_programs_lemmas.division_readings_lemmas.Divisions.{read-same}
use Rattle.end_to_end_laws.proofs.read_programs.division_readings.divisions_read_the_same.Goals as goal

pub returns : goal.returns
returns c names others entries more = read-same names others entries more
