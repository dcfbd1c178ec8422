use Rattle.std.proofs.Common.{◌≡◌, ◌-◌, length}
use Rattle.out_names.specs.Ordering.{first_ready}
use Rattle.out_names.proofs.ordering.first_ready.Given as goal

abbrev pub invariant-loop-at : goal.invariant-loop-at
invariant-loop-at l = first_ready (length l.calls - l.at) l.calls l.stands l.at ≡ first_ready (length l.calls) l.calls l.stands 0
