use Rattle.grammar_laws.proofs.short_lists_lemmas.exit_stmts_lemmas.Paragraphs as paragraphs
use Rattle.grammar_laws.proofs.short_lists.exit_stmts.exits_stand_alone.Goals as goal

pub returns : goal.returns
returns g c bound P = paragraphs.division bound P
