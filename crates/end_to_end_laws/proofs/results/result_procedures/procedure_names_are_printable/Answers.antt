use Rattle.end_to_end_laws.proofs.results_lemmas.result_procedures_lemmas.Named.{names-printable}
use Rattle.end_to_end_laws.proofs.results.result_procedures.procedure_names_are_printable.Goals as goal

pub returns : goal.returns
returns c = names-printable
