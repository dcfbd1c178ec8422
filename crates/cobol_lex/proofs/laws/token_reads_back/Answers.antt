use Rattle.cobol_lex.proofs.TokenReadsBack as law
use Rattle.cobol_lex.proofs.laws.token_reads_back.Goals as goal

pub returns : goal.returns
returns c = law.token_reads_back
