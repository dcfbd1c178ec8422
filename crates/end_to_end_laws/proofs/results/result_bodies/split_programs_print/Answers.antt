use Rattle.end_to_end_laws.proofs.results_lemmas.result_bodies_lemmas.Printing.{split-prints}
use Rattle.end_to_end_laws.proofs.results.result_bodies.split_programs_print.Goals as goal

pub returns : goal.returns
returns c = split-prints
