use Rattle.grammar_laws.proofs.whole_counts_lemmas.whole_entries_lemmas.Declared.{entries-short}
use Rattle.grammar_laws.proofs.whole_counts.whole_entries.numbers_are_short.Goals as goal

pub returns : goal.returns
returns c = entries-short
