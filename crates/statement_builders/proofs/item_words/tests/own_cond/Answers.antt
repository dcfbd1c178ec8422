use Rattle.std.proofs.Common.{refl}
use Rattle.statement_builders.proofs.item_words.tests.own_cond.Goals as goal

pub returns-then-is_own_test : goal.returns-then-is_own_test
returns-then-is_own_test c = (refl, c.is_own_test.ensures.own c.if-is_own_test.true)
