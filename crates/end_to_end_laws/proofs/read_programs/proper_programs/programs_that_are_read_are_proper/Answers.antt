use Rattle.end_to_end_laws.proofs.read_programs_lemmas.named_reading_lemmas.Whole.{read-named}
use Rattle.end_to_end_laws.proofs.read_programs_lemmas.proper_programs_lemmas.Proper.{proper}
use Rattle.end_to_end_laws.proofs.read_programs.proper_programs.programs_that_are_read_are_proper.Goals as goal

pub returns : goal.returns
returns c bytes program reads = let named = read-named bytes program reads in proper program named.0 named.1
