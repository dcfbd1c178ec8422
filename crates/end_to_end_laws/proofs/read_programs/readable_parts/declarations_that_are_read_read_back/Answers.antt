use Rattle.end_to_end_laws.proofs.read_programs_lemmas.readable_parts_lemmas.Read.{reads-back}
use Rattle.end_to_end_laws.proofs.read_programs.readable_parts.declarations_that_are_read_read_back.Goals as goal

pub returns : goal.returns
returns g c taken bytes program reads stated = reads-back g.R.Refers.status taken bytes program reads stated
