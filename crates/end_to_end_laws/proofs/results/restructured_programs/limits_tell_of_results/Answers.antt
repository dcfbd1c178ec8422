use Rattle.end_to_end_laws.proofs.results_lemmas.restructured_programs_lemmas.OneResult.{limits-tell}
use Rattle.end_to_end_laws.proofs.results.restructured_programs.limits_tell_of_results.Goals as goal

pub returns : goal.returns
returns c = limits-tell
