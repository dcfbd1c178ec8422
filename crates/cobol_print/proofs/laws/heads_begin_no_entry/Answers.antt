use Rattle.cobol_print.proofs.HeadsBeginNoEntry as law
use Rattle.cobol_print.proofs.laws.heads_begin_no_entry.Goals as goal

pub returns : goal.returns
returns c = law.heads_begin_no_entry
