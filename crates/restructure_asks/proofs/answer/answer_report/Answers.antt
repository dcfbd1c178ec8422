use Rattle.std.proofs.Common.{Some, subst}
use Rattle.restructure_asks.specs.declared.ask.Ask.TheVariants.{Report}
use Rattle.restructure_asks.specs.Answer.{IsMadeFor}
use Rattle.restructure_asks.proofs.EndLemmas.{report-ends}
use Rattle.restructure_asks.proofs.answer.answer_report.Goals as goal

pub returns-in-Ok : goal.returns-in-Ok
returns-in-Ok g c =
    report-ends _ _ _ _ c.in-Ok.bytes c.in-Ok.ensures.read _ c.give.ensures
    (subst (λ b. IsMadeFor (Some Report) b c.reported-answer.result) c.as_slice.ensures c.reported-answer.ensures)
