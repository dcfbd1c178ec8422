use Rattle.cobol_print.proofs.PrintedReadsBack as law
use Rattle.cobol_print.proofs.laws.printed_reads_back.Goals as goal

pub returns : goal.returns
returns c = law.printed_reads_back c.rows_are_read.ensures c.laid_reads_back.ensures
