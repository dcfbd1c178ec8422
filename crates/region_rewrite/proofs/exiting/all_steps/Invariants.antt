use Rattle.std.proofs.Common.{◌≡◌, ◌+◌, ◌≤◌, ◌^◌}
use Rattle.std.specs.Vec.{vec_len}
use Rattle.control_flow_theory.specs.structuring.Closes.{reduced_by_all}
use Rattle.region_rewrite.specs.Reducing.{StateHolds, graph_in}
use Rattle.region_rewrite.proofs.exiting.all_steps.Given as goal

abbrev pub invariant-loop-left : goal.invariant-loop-left
invariant-loop-left l = record {
  same : reduced_by_all l.left (graph_in l.state) ≡ reduced_by_all l.fn.most (graph_in l.fn.state);
  holds : StateHolds l.state;
  room : vec_len l.state.work.added + l.left ≤ 2 ^ 32;
}

abbrev pub decreases-loop-left : goal.decreases-loop-left
decreases-loop-left l = l.left
