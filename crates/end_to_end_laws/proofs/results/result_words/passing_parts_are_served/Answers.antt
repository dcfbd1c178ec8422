use Rattle.end_to_end_laws.proofs.results_lemmas.result_words_lemmas.Names.{parts-served}
use Rattle.end_to_end_laws.proofs.results.result_words.passing_parts_are_served.Goals as goal

pub returns : goal.returns
returns c program writing = parts-served program writing
