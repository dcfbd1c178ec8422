use Rattle.end_to_end_laws.proofs.results_lemmas.restructured_programs_lemmas.Existing.{are-numbered}
use Rattle.end_to_end_laws.proofs.results.restructured_programs.graphs_are_numbered.Goals as goal

pub returns : goal.returns
returns c = are-numbered
