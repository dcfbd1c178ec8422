use Rattle.grammar_laws.proofs.short_lists_lemmas.Paragraphs as paragraphs
use Rattle.grammar_laws.proofs.short_lists.laws.statements_name_few.Goals as goal

pub returns : goal.returns
returns g c bound small P = paragraphs.division bound small P
