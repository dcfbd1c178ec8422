use Rattle.std.proofs.Common.{◌≡◌, length}
use Rattle.pending_returns.specs.levels.Reach.{IsMarked}
use Rattle.pending_returns.proofs.Passed.{MarksUpTo}
use Rattle.pending_returns.proofs.passing.marked_owners.Given as goal

abbrev pub invariant-loop-at : goal.invariant-loop-at
invariant-loop-at l = record {
  marks : MarksUpTo l.table l.returns l.kept l.at l.flags.items;
  marked : IsMarked l.reach.places.items l.reach.marks.items;
  places : length l.reach.marks.items ≡ length l.table.places;
  size : length l.flags.items ≡ length l.table.starts;
}
