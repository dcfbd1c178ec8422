use Rattle.pending_returns.specs.levels.Reach.{HasEnd, HasEndFrom}
use Rattle.pending_returns.proofs.levels.settling.has_end.Given as goal

abbrev pub invariant-loop-number : goal.invariant-loop-number
invariant-loop-number l = HasEnd l.table l.range l.places → HasEndFrom l.table l.range l.places l.number-index
