use Rattle.std.proofs.Common.{◌≡◌, ◌*◌, length}
use Rattle.cob_store.specs.Starting.{for_each, moved_by, put_each, start_bytes}
use Rattle.cob_store.specs.Size.{capped}
use Rattle.cob_store.proofs.starting.+put_each.Given as goal

abbrev pub invariant-loop-number : goal.invariant-loop-number
invariant-loop-number l = l.store ≡ for_each l.number (λ number. put_each l.inner (moved_by l.spot (capped (number * l.dim.stride))) (start_bytes l.spot.«length» l.start)) l.initial.store

abbrev pub decreases-put_each : goal.decreases-put_each
decreases-put_each l = length l.dims.now
