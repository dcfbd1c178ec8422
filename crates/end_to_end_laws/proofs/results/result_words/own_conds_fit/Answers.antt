use Rattle.end_to_end_laws.proofs.results_lemmas.result_words_lemmas.Names.{conds-fit}
use Rattle.end_to_end_laws.proofs.results.result_words.own_conds_fit.Goals as goal

pub returns : goal.returns
returns c program label range = conds-fit program label range
