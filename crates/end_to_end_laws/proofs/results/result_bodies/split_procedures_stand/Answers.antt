use Rattle.end_to_end_laws.proofs.results_lemmas.result_bodies_lemmas.Standing.{split-stands}
use Rattle.end_to_end_laws.proofs.results.result_bodies.split_procedures_stand.Goals as goal

pub returns : goal.returns
returns c = split-stands
