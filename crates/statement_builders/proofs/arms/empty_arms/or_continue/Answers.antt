use Rattle.std.proofs.Common.{arith}
use Rattle.statement_builders.proofs.arms_lemmas.ChoiceRows.{some_continue}
use Rattle.statement_builders.proofs.arms.empty_arms.or_continue.Goals as goal

pub returns-else-len-eq0 : goal.returns-else-len-eq0
returns-else-len-eq0 c = some_continue c.args.stmts (omega (arith, c.len.ensures, c.if-len-eq0.false))
