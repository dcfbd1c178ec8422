use Rattle.std.proofs.Common.{length}
use Rattle.flow_graph.specs.range_sizes.Cache.{IsKnown}
use Rattle.flow_graph.specs.range_sizes.Segment.{ComesToPart}
use Rattle.flow_graph.proofs.range_sizes.segment.point_part.Given as goal

abbrev pub invariant-loop-stretch : goal.invariant-loop-stretch
invariant-loop-stretch l = record {
  comes : ComesToPart l.telling l.spots l.known.jumps.items l.place l.passing l.stretches.items l.part;
  known : IsKnown l.telling l.spots l.known;
}

abbrev pub decreases-loop-stretch : goal.decreases-loop-stretch
decreases-loop-stretch l = length l.stretches.items
