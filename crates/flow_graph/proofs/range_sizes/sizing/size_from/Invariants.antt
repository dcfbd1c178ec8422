use Rattle.std.proofs.Common.{take}
use Rattle.flow_graph.specs.Counts.{CountsTo}
use Rattle.flow_graph.proofs.Reached.{ReachSoFar}
use Rattle.flow_graph.specs.range_sizes.Cache.{IsKnown}
use Rattle.flow_graph.proofs.range_sizes.sizing.size_from.Given as goal

abbrev pub invariant-loop-at : goal.invariant-loop-at
invariant-loop-at l = record {
  reach : ReachSoFar l.telling l.spots l.range l.entry l.reach.places.items l.reach.marks.items l.at;
  known : IsKnown l.telling l.spots l.known;
  counts : CountsTo l.telling l.spots l.range (take l.at l.reach.places.items) l.count;
}
