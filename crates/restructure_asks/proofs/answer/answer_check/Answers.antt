use Rattle.std.proofs.Common.{Some, subst}
use Rattle.restructure_asks.specs.declared.ask.Ask.TheVariants.{Check}
use Rattle.restructure_asks.specs.Answer.{IsMadeFor}
use Rattle.restructure_asks.proofs.EndLemmas.{check-ends}
use Rattle.restructure_asks.proofs.answer.answer_check.Goals as goal

pub returns-in-Ok : goal.returns-in-Ok
returns-in-Ok g c =
    check-ends _ _ _ _ c.in-Ok.bytes c.in-Ok.ensures.read _ c.give.ensures
    (subst (λ b. IsMadeFor (Some Check) b c.checked-answer.result) c.as_slice.ensures c.checked-answer.ensures)
