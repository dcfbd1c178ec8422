use Rattle.restructure_asks.proofs.EndLemmas.{generate-ends}
use Rattle.restructure_asks.proofs.answer.answer_generate.Goals as goal

pub returns : goal.returns
returns g c = generate-ends c.args.n _ _ _ _ c.generated-answer.ensures c.give.ensures
