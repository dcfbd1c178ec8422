use Rattle.pending_returns.proofs.Kept.{RenumbersUpTo}
use Rattle.pending_returns.proofs.keeping.renumbered.Given as goal

abbrev pub invariant-loop-at : goal.invariant-loop-at
invariant-loop-at l = RenumbersUpTo l.ranks l.calls l.at l.made
