use Rattle.restructure_asks.proofs.EndLemmas.{trial-ends}
use Rattle.restructure_asks.proofs.answer.answer_trial.Goals as goal

pub returns : goal.returns
returns g c = trial-ends c.args.n _ _ _ _ c.tried-answer.ensures c.give.ensures
