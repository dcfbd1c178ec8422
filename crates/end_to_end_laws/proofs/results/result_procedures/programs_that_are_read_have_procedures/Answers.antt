use Rattle.end_to_end_laws.proofs.results_lemmas.result_procedures_lemmas.Read.{read-have}
use Rattle.end_to_end_laws.proofs.results.result_procedures.programs_that_are_read_have_procedures.Goals as goal

pub returns : goal.returns
returns c = read-have
