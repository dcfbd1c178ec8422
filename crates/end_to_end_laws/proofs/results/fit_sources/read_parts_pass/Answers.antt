use Rattle.end_to_end_laws.proofs.results_lemmas.fit_sources_lemmas.Parts.{read-pass}
use Rattle.end_to_end_laws.proofs.results.fit_sources.read_parts_pass.Goals as goal

pub returns : goal.returns
returns c = read-pass
