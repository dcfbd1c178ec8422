use Rattle.std.proofs.Common.{length}
use Rattle.procedure_split.proofs.shaped_ranges_lemmas.ShapedRows.{SoFar}
use Rattle.procedure_split.proofs.shaped_ranges.shaping.shape_all.Given as goal

abbrev pub invariant-loop-graph : goal.invariant-loop-graph
invariant-loop-graph l = SoFar l.fn.graphs.items l.left.items l.made.items

abbrev pub decreases-loop-graph : goal.decreases-loop-graph
decreases-loop-graph l = length l.left.items
