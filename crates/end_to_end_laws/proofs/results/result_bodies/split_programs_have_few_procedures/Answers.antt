use Rattle.end_to_end_laws.proofs.results_lemmas.result_bodies_lemmas.Few.{few-procedures}
use Rattle.end_to_end_laws.proofs.results.result_bodies.split_programs_have_few_procedures.Goals as goal

pub returns : goal.returns
returns c = few-procedures
