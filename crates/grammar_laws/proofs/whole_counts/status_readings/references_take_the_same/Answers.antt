use Rattle.grammar_laws.proofs.whole_counts_lemmas.status_readings_lemmas.References.{data_reference}
use Rattle.grammar_laws.proofs.whole_counts.status_readings.references_take_the_same.Goals as goal

pub returns : goal.returns
returns c names others = data_reference names others
