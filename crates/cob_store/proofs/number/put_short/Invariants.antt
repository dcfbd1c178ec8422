use Rattle.std.proofs.Common.{◌≡◌, ◌≤◌, ◌++◌, drop, length}
use Rattle.cob_store.specs.Number.{padded}
use Rattle.cob_store.proofs.number.put_short.Given as goal

abbrev pub invariant-loop-at : goal.invariant-loop-at
invariant-loop-at l = record { within : l.at ≤ length l.into; same : padded (length l.into) l.fn.number ≡ padded l.at l.rest ++ drop l.at l.into }

abbrev pub decreases-loop-at : goal.decreases-loop-at
decreases-loop-at l = l.at
