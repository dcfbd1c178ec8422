use Rattle.grammar_laws.proofs.no_periods_lemmas.Holding as holding
use Rattle.grammar_laws.proofs.no_periods_lemmas.Plainly.{parts}
use Rattle.grammar_laws.proofs.no_periods.statements_take_no_period.Goals as goal

pub returns : goal.returns
returns c names entries table levels scope = holding.stmts (parts names entries table) levels scope
