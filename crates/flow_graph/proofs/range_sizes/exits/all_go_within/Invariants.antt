use Rattle.std.proofs.Common.{◌≡◌, ◌<◌, ℕ, true, Some, slice_get}
use Rattle.statement_lowering.specs.declared.continuations.continuation.Continuation.{Continuation}
use Rattle.flow_graph.specs.range_sizes.Exits.{goes_within}
use Rattle.flow_graph.proofs.range_sizes.exits.all_go_within.Given as goal

abbrev pub invariant-loop-spot : goal.invariant-loop-spot
invariant-loop-spot l = (at next : ℕ) (spot : Continuation) → at < l.spot-index →
    slice_get l.spots at ≡ Some spot → spot.onward.behind ≡ Some next →
    goes_within l.spots spot.onward next ≡ true
