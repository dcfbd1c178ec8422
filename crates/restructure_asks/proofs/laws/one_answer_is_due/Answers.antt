use Rattle.restructure_asks.proofs.LawLemmas.{one-answer}
use Rattle.restructure_asks.proofs.laws.one_answer_is_due.Goals as goal

pub returns : goal.returns
returns c = one-answer
