use Rattle.end_to_end_laws.proofs.results_lemmas.result_entries_lemmas.Serve.{cell_items_serve}
use Rattle.end_to_end_laws.proofs.results.result_entries.cell_items_serve.Goals as goal

pub returns : goal.returns
returns c = cell_items_serve
