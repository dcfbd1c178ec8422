use Rattle.grammar_laws.proofs.whole_counts_lemmas.entry_bounds_lemmas.Bound.{bound}
use Rattle.grammar_laws.proofs.whole_counts.entry_bounds.entries_are_bound.Goals as goal

pub returns : goal.returns
returns c = bound
