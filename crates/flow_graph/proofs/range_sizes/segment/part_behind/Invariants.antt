use Rattle.std.proofs.Common.{◌≡◌, ◌*◌, ◌≤◌, ◌<◌, length, true}
use Rattle.control_flow_theory.specs.lowering.Lower.{point}
use Rattle.flow_graph.specs.Reaching.{NodeJumpsBelow}
use Rattle.flow_graph.specs.range_sizes.Exits.{GoesSo}
use Rattle.flow_graph.specs.range_sizes.Cache.{IsKnown}
use Rattle.flow_graph.specs.range_sizes.Segment.{LeadsTo}
use Rattle.flow_graph.proofs.range_sizes.segment.part_behind.Given as goal

abbrev pub invariant-loop-turn : goal.invariant-loop-turn
invariant-loop-turn l = record {
  there : l.here < length l.spots;
  turns : l._turn ≤ l.here;
  leads : LeadsTo l.telling l.spots l.from.passing l.from.place l.stretches.items l.here;
  goes : GoesSo l.spots l.from.range l.here l.from.passing;
  below : NodeJumpsBelow l.telling l.spots l.from.range (point l.here) (3 * length l.spots);
  known : IsKnown l.telling l.spots l.known;
  shared : l.known.shared ≡ true;
}
