use Rattle.end_to_end_laws.proofs.read_programs_lemmas.own_names_lemmas.Own.{read-own}
use Rattle.end_to_end_laws.proofs.read_programs.own_names.programs_are_read_over_their_own_names.Goals as goal

pub returns : goal.returns
returns c = read-own
