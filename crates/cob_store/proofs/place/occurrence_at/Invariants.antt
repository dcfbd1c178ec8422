use Rattle.std.proofs.Common.{◌≡◌, drop}
use Rattle.cob_store.specs.Place.{occurrence_at}
use Rattle.cob_store.proofs.place.occurrence_at.Given as goal

abbrev pub invariant-loop-offset : goal.invariant-loop-offset
invariant-loop-offset l = occurrence_at (drop l.offset-index l.offsets) l.left l.at ≡ occurrence_at l.offsets l.dims l.start
