use Rattle.cobol_grammar.proofs.PartLaws as part_laws
use Rattle.grammar_laws.proofs.whole_counts_lemmas.whole_stmts_lemmas.Paragraphs as paragraphs
use Rattle.grammar_laws.proofs.whole_counts_lemmas.whole_division_lemmas.Parts as parts
use Rattle.grammar_laws.proofs.whole_counts.whole_division.division_counts_whole.Goals as goal

pub returns : goal.returns
returns c names entries table fit = paragraphs.division entries (part_laws.parts names entries table) (parts.parts names entries table fit)
