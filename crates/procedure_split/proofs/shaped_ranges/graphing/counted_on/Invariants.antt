use Rattle.std.proofs.Common.{◌≡◌, ◌*◌, length}
use Rattle.pending_returns.specs.levels.Reach.{IsMarked}
use Rattle.flow_graph.specs.range_sizes.Cache.{IsKnown}
use Rattle.procedure_split.proofs.shaped_ranges_lemmas.GraphRows.{CountedSoFar}
use Rattle.procedure_split.proofs.shaped_ranges.graphing.counted_on.Given as goal

abbrev pub invariant-loop-range : goal.invariant-loop-range
invariant-loop-range l = record {
  so : CountedSoFar l.context l.spots l.ranges l.range-index l.others l.count;
  known : IsKnown l.context l.spots l.known;
  marked : IsMarked l.reach.places.items l.reach.marks.items;
  size : length l.reach.marks.items ≡ 3 * length l.spots;
}
