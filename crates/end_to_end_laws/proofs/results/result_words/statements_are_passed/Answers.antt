use Rattle.end_to_end_laws.proofs.results_lemmas.result_words_lemmas.Carried.{stmt-passed}
use Rattle.end_to_end_laws.proofs.results.result_words.statements_are_passed.Goals as goal

pub returns : goal.returns
returns c fits others passed stmt h = stmt-passed fits others passed stmt h
