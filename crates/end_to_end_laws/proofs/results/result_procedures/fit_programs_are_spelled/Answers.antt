use Rattle.end_to_end_laws.proofs.results_lemmas.result_procedures_lemmas.Spelled.{fit-spelled}
use Rattle.end_to_end_laws.proofs.results.result_procedures.fit_programs_are_spelled.Goals as goal

pub returns : goal.returns
returns c = fit-spelled
