use Rattle.grammar_laws.proofs.well_scoped_lemmas.named_stmts_lemmas.Paragraphs as paragraphs
use Rattle.grammar_laws.proofs.well_scoped.named_stmts.statements_give.Goals as goal

pub returns : goal.returns
returns g c counts P G = paragraphs.division counts P G
