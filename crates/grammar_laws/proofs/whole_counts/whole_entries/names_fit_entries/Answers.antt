use Rattle.grammar_laws.proofs.whole_counts_lemmas.whole_entries_lemmas.Fitting.{entries-fit}
use Rattle.grammar_laws.proofs.whole_counts.whole_entries.names_fit_entries.Goals as goal

pub returns : goal.returns
returns c = entries-fit
