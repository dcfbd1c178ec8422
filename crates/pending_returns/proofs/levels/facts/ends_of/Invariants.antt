use Rattle.std.proofs.Common.{◌≡◌, length}
use Rattle.pending_returns.specs.levels.Reach.{IsMarked, GathersEnds}
use Rattle.pending_returns.proofs.levels.facts.ends_of.Given as goal

abbrev pub invariant-loop-number : goal.invariant-loop-number
invariant-loop-number l = record {
  marked : IsMarked l.ends.places.items l.ends.marks.items;
  size : length l.ends.marks.items ≡ length l.table.starts;
  ends : GathersEnds l.table l.range l.places l.ends.places.items l.number-index;
}
