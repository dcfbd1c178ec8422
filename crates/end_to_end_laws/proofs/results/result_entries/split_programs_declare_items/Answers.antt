use Rattle.end_to_end_laws.proofs.results_lemmas.result_entries_lemmas.Serve.{split_programs_declare_items}
use Rattle.end_to_end_laws.proofs.results.result_entries.split_programs_declare_items.Goals as goal

pub returns : goal.returns
returns c = split_programs_declare_items
