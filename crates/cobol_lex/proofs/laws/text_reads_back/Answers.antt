use Rattle.cobol_lex.proofs.TextReadsBack as law
use Rattle.cobol_lex.proofs.laws.text_reads_back.Goals as goal

pub returns : goal.returns
returns c = law.text_reads_back
