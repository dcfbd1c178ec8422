use Rattle.cobol_lex.proofs.TokenLinesRise as law
use Rattle.cobol_lex.proofs.laws.token_lines_rise.Goals as goal

pub returns : goal.returns
returns c = law.token_lines_rise
