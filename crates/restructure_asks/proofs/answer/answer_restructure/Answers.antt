use Rattle.std.proofs.Common.{Some, subst}
use Rattle.restructure_asks.specs.declared.ask.Ask.TheVariants.{Restructure}
use Rattle.restructure_asks.specs.Answer.{IsMadeFor}
use Rattle.restructure_asks.proofs.EndLemmas.{restructure-ends}
use Rattle.restructure_asks.proofs.answer.answer_restructure.Goals as goal

pub returns-in-Ok : goal.returns-in-Ok
returns-in-Ok g c =
    restructure-ends _ _ _ _ c.in-Ok.bytes c.in-Ok.ensures.read _ c.give.ensures
    (subst (λ b. IsMadeFor (Some Restructure) b c.restructured-answer.result) c.as_slice.ensures c.restructured-answer.ensures)
