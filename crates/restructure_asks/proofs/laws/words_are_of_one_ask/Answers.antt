use Rattle.restructure_asks.proofs.AskLemmas.{words-of-ask}
use Rattle.restructure_asks.proofs.laws.words_are_of_one_ask.Goals as goal

pub returns : goal.returns
returns c = words-of-ask
