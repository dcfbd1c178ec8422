use Rattle.end_to_end_laws.proofs.results_lemmas.result_procedures_lemmas.Filled.{filled}
use Rattle.end_to_end_laws.proofs.results.result_procedures.written_sentences_are_filled.Goals as goal

pub returns : goal.returns
returns c = filled
