use Rattle.std.proofs.Common.{◌≡◌, length}
use Rattle.pending_returns.specs.levels.Reach.{IsMarked, GathersCalls}
use Rattle.pending_returns.proofs.levels.facts.calls_of.Given as goal

abbrev pub invariant-loop-number : goal.invariant-loop-number
invariant-loop-number l = record {
  marked : IsMarked l.calls.places.items l.calls.marks.items;
  size : length l.calls.marks.items ≡ length l.table.ranges;
  calls : GathersCalls l.table l.places l.calls.places.items l.number-index;
}
