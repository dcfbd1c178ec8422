use Rattle.end_to_end_laws.proofs.results_lemmas.result_words_lemmas.Names.{names-fit}
use Rattle.end_to_end_laws.proofs.results.result_words.result_names_fit.Goals as goal

pub returns : goal.returns
returns c program made writing words label range procedures ranges = names-fit program made writing words label range procedures ranges
