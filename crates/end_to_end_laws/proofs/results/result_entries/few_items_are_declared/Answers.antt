use Rattle.end_to_end_laws.proofs.results_lemmas.result_entries_lemmas.Serve.{few-kinds}
use Rattle.end_to_end_laws.proofs.results.result_entries.few_items_are_declared.Goals as goal

pub returns : goal.returns
returns c = few-kinds
