use Rattle.std.proofs.Common.{◌≡◌, ◌-◌, ◌^◌, min, take, sum_by}
use Rattle.flow_graph.specs.graph_sizes.Parts.{arm_size, piece_size, within_size}
use Rattle.flow_graph.proofs.graph_sizes.sizing.+sizing.Given as goal

abbrev pub invariant-body_size-loop-at : goal.invariant-body_size-loop-at
invariant-body_size-loop-at l =
    l.count ≡ min (sum_by piece_size (take l.at l.body.items)) (2 ^ 64 - 1)

abbrev pub invariant-chosen_size-loop-arm : goal.invariant-chosen_size-loop-arm
invariant-chosen_size-loop-arm l =
    l.count ≡ min (sum_by arm_size (take l.arm-index l.arms)) (2 ^ 64 - 1)

abbrev pub invariant-arms_within_size-loop-arm : goal.invariant-arms_within_size-loop-arm
invariant-arms_within_size-loop-arm l =
    l.count ≡ min (sum_by (within_size l.leaves) (take l.arm-index l.arms)) (2 ^ 64 - 1)
