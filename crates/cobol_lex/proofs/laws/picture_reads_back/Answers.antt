use Rattle.cobol_lex.proofs.PictureReadsBack as law
use Rattle.cobol_lex.proofs.laws.picture_reads_back.Goals as goal

pub returns : goal.returns
returns c = law.picture_reads_back
