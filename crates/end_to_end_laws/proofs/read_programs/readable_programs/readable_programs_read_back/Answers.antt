use Rattle.end_to_end_laws.proofs.read_programs_lemmas.readable_programs_lemmas.ReadBack.{read-back}
use Rattle.end_to_end_laws.proofs.read_programs.readable_programs.readable_programs_read_back.Goals as goal

pub returns : goal.returns
returns c = read-back c.programs_unfold.ensures c.prints_all.ensures
