use Rattle.std.proofs.Common.{◌≡◌, ◌+◌, ◌≤◌, ◌^◌}
use Rattle.std.specs.Vec.{vec_len}
use Rattle.control_flow_theory.specs.graph_rules.Reduced.{reduced}
use Rattle.region_rewrite.specs.Reducing.{StateHolds, graph_in}
use Rattle.region_rewrite.proofs.reducing.steps.Given as goal

abbrev pub invariant-loop-left : goal.invariant-loop-left
invariant-loop-left l = record {
  same : reduced l.left (graph_in l.state) ≡ reduced l.fn.most (graph_in l.fn.state);
  holds : StateHolds l.state;
  room : vec_len l.state.work.added + l.left ≤ 2 ^ 32;
}

abbrev pub decreases-loop-left : goal.decreases-loop-left
decreases-loop-left l = l.left
