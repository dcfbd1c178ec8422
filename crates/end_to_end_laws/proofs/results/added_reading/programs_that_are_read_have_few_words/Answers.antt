use Rattle.end_to_end_laws.proofs.results_lemmas.added_reading_lemmas.Words.{few-words}
use Rattle.end_to_end_laws.proofs.results.added_reading.programs_that_are_read_have_few_words.Goals as goal

pub returns : goal.returns
returns c = few-words
