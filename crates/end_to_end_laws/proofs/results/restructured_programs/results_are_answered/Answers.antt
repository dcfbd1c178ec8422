use Rattle.end_to_end_laws.proofs.results_lemmas.restructured_programs_lemmas.Answered.{results-answered}
use Rattle.end_to_end_laws.proofs.results.restructured_programs.results_are_answered.Goals as goal

pub returns : goal.returns
returns c = results-answered
