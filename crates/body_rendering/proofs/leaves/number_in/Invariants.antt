use Rattle.std.proofs.Common.{◌≡◌, ◌≤◌, drop, length}
use Rattle.control_flow_theory.specs.structuring.Dispatches.{number_in}
use Rattle.body_rendering.proofs.leaves.number_in.Given as goal

abbrev pub invariant-loop-at : goal.invariant-loop-at
invariant-loop-at l = record {
  within : l.at ≤ length l.labels;
  so : l.number ≡ number_in (drop l.at l.labels) l.label;
}

abbrev pub decreases-loop-at : goal.decreases-loop-at
decreases-loop-at l = l.at
