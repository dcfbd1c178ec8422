use Rattle.std.proofs.Common.{◌≡◌, length}
use Rattle.pending_returns.specs.levels.Reach.{IsMarked}
use Rattle.pending_returns.proofs.faults_lemmas.Standing.{ClearUpTo}
use Rattle.pending_returns.proofs.faults.clash.clash_of.Given as goal

abbrev pub invariant-loop-number : goal.invariant-loop-number
invariant-loop-number l = record {
  clear : ClearUpTo l.levels l.number;
  marked : IsMarked l.reach.places.items l.reach.marks.items;
  size : length l.reach.marks.items ≡ length l.levels;
}
