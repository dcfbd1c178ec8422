use Rattle.grammar_laws.proofs.well_scoped_lemmas.named_entries_lemmas.Declared.{entries, files}
use Rattle.grammar_laws.proofs.well_scoped.named_entries.entries_are_named.Goals as goal

pub returns : goal.returns
returns c counts divisions named none = (entries divisions named.values none, files counts divisions.selects named.statuses)
