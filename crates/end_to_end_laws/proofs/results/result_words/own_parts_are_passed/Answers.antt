use Rattle.end_to_end_laws.proofs.results_lemmas.result_words_lemmas.Own.{own-passed}
use Rattle.end_to_end_laws.proofs.results.result_words.own_parts_are_passed.Goals as goal

pub returns : goal.returns
returns c program made items has new label range = own-passed program made items has new label range
