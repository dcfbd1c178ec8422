use Rattle.std.proofs.lemmas.Result.{IfOk-weaker}
use Rattle.statement_builders.proofs.item_words.tests.cell_test.Goals as goal

pub returns : goal.returns
returns c =
    IfOk-weaker c.relation.result _ _ (λ made e. (c.in_ok-found.found, c.in_ok-found.ensures, e)) c.relation.ensures
