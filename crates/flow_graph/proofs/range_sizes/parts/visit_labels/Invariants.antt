use Rattle.std.proofs.Common.{◌≡◌, length}
use Rattle.pending_returns.specs.levels.Reach.{IsMarked}
use Rattle.flow_graph.proofs.range_sizes_lemmas.PartRows.{SomeAdded}
use Rattle.flow_graph.proofs.range_sizes.parts.visit_labels.Given as goal

abbrev pub invariant-loop-label : goal.invariant-loop-label
invariant-loop-label l = record {
  some : SomeAdded l.labels l.label-index l.fn.reach.places.items l.reach.places.items;
  marked : IsMarked l.reach.places.items l.reach.marks.items;
  size : length l.reach.marks.items ≡ length l.fn.reach.marks.items;
}
