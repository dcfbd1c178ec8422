use Rattle.end_to_end_laws.proofs.results_lemmas.restructured_programs_lemmas.Formed.{results-structured}
use Rattle.end_to_end_laws.proofs.results.restructured_programs.results_are_structured.Goals as goal

pub returns : goal.returns
returns c = results-structured
