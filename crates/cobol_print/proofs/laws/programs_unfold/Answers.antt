use Rattle.cobol_print.proofs.ProgramsUnfold as law
use Rattle.cobol_print.proofs.laws.programs_unfold.Goals as goal

pub returns : goal.returns
returns c = law.programs_unfold c.rows_are_read.ensures c.laid_reads_back.ensures
