use Rattle.end_to_end_laws.proofs.results_lemmas.result_procedures_lemmas.Fit.{sentences-pass}
use Rattle.end_to_end_laws.proofs.results.result_procedures.structured_sentences_fit.Goals as goal

pub returns : goal.returns
returns c = sentences-pass
