use Rattle.end_to_end_laws.proofs.results_lemmas.restructured_programs_lemmas.Behaving.{results-alike}
use Rattle.end_to_end_laws.proofs.results.restructured_programs.results_behave_alike.Goals as goal

pub returns : goal.returns
returns c = results-alike
