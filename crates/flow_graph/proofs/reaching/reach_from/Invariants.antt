use Rattle.std.proofs.Common.{◌≤◌, take}
use Rattle.flow_graph.specs.Counts.{CountsTo}
use Rattle.flow_graph.specs.Lowered.{AreMade}
use Rattle.flow_graph.proofs.Reached.{ReachSoFar}
use Rattle.flow_graph.proofs.reaching.reach_from.Given as goal

abbrev pub invariant-loop-at : goal.invariant-loop-at
invariant-loop-at l = record {
  reach : ReachSoFar l.telling l.spots l.begin.range l.begin.entry l.reach.places.items l.reach.marks.items l.at;
  made : AreMade l.telling l.spots l.begin.range (take l.at l.reach.places.items) l.nodes.items;
  counts : CountsTo l.telling l.spots l.begin.range (take l.at l.reach.places.items) l.count;
  few : l.count ≤ l.most;
}
