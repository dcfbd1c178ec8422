use Rattle.cobol_lex.proofs.TokensCover as law
use Rattle.cobol_lex.proofs.laws.tokens_cover.Goals as goal

pub returns : goal.returns
returns c = law.tokens_cover
