use Rattle.end_to_end_laws.proofs.read_programs_lemmas.readable_parts_lemmas.Read.{names_are_readable}
use Rattle.end_to_end_laws.proofs.read_programs.readable_parts.names_are_readable.Goals as goal

pub returns : goal.returns
returns c = names_are_readable
