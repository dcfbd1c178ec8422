use Rattle.std.proofs.Common.{◌≡◌, ◌*◌, length}
use Rattle.pending_returns.specs.levels.Reach.{IsMarked}
use Rattle.procedure_split.specs.shaped_ranges.Shaping.{AllReady}
use Rattle.procedure_split.proofs.shaped_ranges_lemmas.GraphRows.{SoFar}
use Rattle.procedure_split.proofs.shaped_ranges.graphing.graphs_of.Given as goal

abbrev pub invariant-loop-at : goal.invariant-loop-at
invariant-loop-at l = record {
  so : SoFar l.context l.spots l.ranges l.at l.graphs.items l.count;
  ready : AllReady l.graphs.items;
  marked : IsMarked l.reach.places.items l.reach.marks.items;
  size : length l.reach.marks.items ≡ 3 * length l.spots;
}
