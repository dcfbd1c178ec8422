use Rattle.end_to_end_laws.proofs.results_lemmas.result_procedures_lemmas.Named.{names-titles}
use Rattle.end_to_end_laws.proofs.results.result_procedures.procedure_names_are_titles.Goals as goal

pub returns : goal.returns
returns c = names-titles
