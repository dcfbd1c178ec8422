use Rattle.pending_returns.proofs.Kept.{KeepsUpTo}
use Rattle.pending_returns.proofs.keeping.kept_facts.Given as goal

abbrev pub invariant-loop-at : goal.invariant-loop-at
invariant-loop-at l = KeepsUpTo l.levels l.kept l.ranks l.at l.made
