use Rattle.cobol_lex.proofs.LaidReadsBack as law
use Rattle.cobol_lex.proofs.laws.laid_reads_back.Goals as goal

pub returns : goal.returns
returns c = law.laid_reads_back
