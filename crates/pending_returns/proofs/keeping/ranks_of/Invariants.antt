use Rattle.std.proofs.Common.{◌≡◌, length}
use Rattle.pending_returns.proofs.Kept.{RanksUpTo}
use Rattle.pending_returns.proofs.keeping.ranks_of.Given as goal

abbrev pub invariant-loop-at : goal.invariant-loop-at
invariant-loop-at l = record {
  ranks : RanksUpTo l.kept l.at l.ranks.items;
  size : length l.ranks.items ≡ l.count;
}
