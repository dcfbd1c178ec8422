use Rattle.std.proofs.Common.{◌≡◌, length}
use Rattle.pending_returns.specs.levels.Reach.{IsMarked, AddsSome}
use Rattle.pending_returns.proofs.levels.reach.Reach.visit_all.Given as goal

abbrev pub invariant-loop-way : goal.invariant-loop-way
invariant-loop-way l = record {
  marked : IsMarked l.self.places.items l.self.marks.items;
  size : length l.self.marks.items ≡ length l.fn.self.marks.items;
  some : AddsSome l.ways l.way-index l.fn.self.places.items l.self.places.items;
}
