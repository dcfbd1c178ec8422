use Rattle.grammar_laws.proofs.whole_counts_lemmas.whole_stmts_lemmas.Paragraphs as paragraphs
use Rattle.grammar_laws.proofs.whole_counts.whole_stmts.statements_count_whole.Goals as goal

pub returns : goal.returns
returns g c entries P G = paragraphs.division entries P G
