use Rattle.end_to_end_laws.proofs.results_lemmas.result_bodies_lemmas.Paragraphs.{are-written}
use Rattle.end_to_end_laws.proofs.results.result_bodies.paragraphs_are_written.Goals as goal

pub returns : goal.returns
returns c = are-written
