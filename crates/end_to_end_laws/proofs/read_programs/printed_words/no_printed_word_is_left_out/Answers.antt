use Rattle.end_to_end_laws.proofs.read_programs_lemmas.printed_words_lemmas.Programs.{no_printed_word_is_left_out}
use Rattle.end_to_end_laws.proofs.read_programs.printed_words.no_printed_word_is_left_out.Goals as goal

pub returns : goal.returns
returns c = no_printed_word_is_left_out
