use Rattle.pending_returns.specs.levels.Reach.{IsSoFar}
use Rattle.overlap_trail.specs.finding.Search.{flags_of, TracesLevel}
use Rattle.overlap_trail.proofs.finding.search.followed.Given as goal

abbrev pub invariant-loop-at : goal.invariant-loop-at
invariant-loop-at l = record {
  so_far : IsSoFar l.table (flags_of l.numbers) l.range l.route.reach.places.items l.route.reach.marks.items l.at;
  traces : TracesLevel l.table l.numbers l.range l.route.reach.places.items l.route.came.items;
}
