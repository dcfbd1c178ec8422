use Rattle.std.proofs.Common.{◌≡◌, ◌≤◌, drop, length}
use Rattle.cob_store.specs.Store.{blank}
use Rattle.cob_store.specs.Starting.{started_over}
use Rattle.cob_store.proofs.starting.initial.Given as goal

abbrev pub invariant-loop-at : goal.invariant-loop-at
invariant-loop-at l = record { within : l.at ≤ length l.entries; same : l.store ≡ started_over (drop l.at l.entries) (drop l.at l.areas.items) (blank l.areas.roots) }

abbrev pub decreases-loop-at : goal.decreases-loop-at
decreases-loop-at l = l.at
