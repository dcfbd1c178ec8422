use Rattle.end_to_end_laws.proofs.results_lemmas.fit_sources_lemmas.Programs.{read-fit}
use Rattle.end_to_end_laws.proofs.results.fit_sources.programs_that_are_read_fit.Goals as goal

pub returns : goal.returns
returns c = read-fit
