use Rattle.parser_combinators.proofs.Reader.{reader}
use Rattle.parser_combinators.proofs.words_lemmas.WordLaws as laws
use Rattle.parser_combinators.proofs.words.laws.words_are_read.Goals as goal

pub returns : goal.returns
returns c = record {
  names = reader laws.name.lawful;
  words = reader laws.user_word.lawful;
  literals = reader laws.literal.lawful;
}
