use Rattle.pending_returns.proofs.Flags.{ListsUpTo}
use Rattle.pending_returns.proofs.listing.lists.Given as goal

abbrev pub invariant-loop-at : goal.invariant-loop-at
invariant-loop-at l = ListsUpTo l.flags l.at l.numbers
