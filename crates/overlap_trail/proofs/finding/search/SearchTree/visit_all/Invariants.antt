use Rattle.std.proofs.Common.{◌≡◌, length}
use Rattle.pending_returns.specs.levels.Reach.{IsMarked, AddsSome}
use Rattle.overlap_trail.specs.finding.Search.{Tracks, ByWay}
use Rattle.overlap_trail.proofs.finding.search.SearchTree.visit_all.Given as goal

abbrev pub invariant-loop-number : goal.invariant-loop-number
invariant-loop-number l = record {
  marked : IsMarked l.self.reach.places.items l.self.reach.marks.items;
  marks : length l.self.reach.marks.items ≡ length l.fn.self.reach.marks.items;
  some : AddsSome l.ways l.number l.fn.self.reach.places.items l.self.reach.places.items;
  tracks : Tracks (λ to how. ByWay l.ways l.before to how) l.fn.self.reach.places.items l.self.reach.places.items l.fn.self.came.items l.self.came.items;
}
