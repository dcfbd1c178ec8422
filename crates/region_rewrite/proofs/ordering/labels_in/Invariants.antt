use Rattle.std.proofs.Common.{take}
use Rattle.region_rewrite.proofs.SetRows.{LabelsIn}
use Rattle.region_rewrite.proofs.ordering.labels_in.Given as goal

abbrev pub invariant-loop-node : goal.invariant-loop-node
invariant-loop-node l = LabelsIn (take l.node-index l.nodes) l.labels
