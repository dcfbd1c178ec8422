use Rattle.std.proofs.Common.{◌≡◌, ◌≤◌, ◌+◌, length, drop}
use Rattle.control_flow_theory.specs.structuring.Dispatches.{number_in}
use Rattle.state_dispatch.proofs.numbers.number_in.Given as goal

abbrev pub invariant-loop-left : goal.invariant-loop-left
invariant-loop-left l = record {
  within : l.left ≤ length l.labels;
  behind : l.number ≡ number_in (drop l.left l.labels) l.label;
  small : l.number + l.left ≤ length l.labels;
}

abbrev pub decreases-loop-left : goal.decreases-loop-left
decreases-loop-left l = l.left
