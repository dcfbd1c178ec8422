use Rattle.end_to_end_laws.proofs.results_lemmas.added_reading_lemmas.Read.{declare-readably}
use Rattle.end_to_end_laws.proofs.results.added_reading.programs_with_items_declare_readably.Goals as goal

pub returns : goal.returns
returns c = declare-readably
