use Rattle.std.proofs.Common.{◌≡◌, ◌≤◌, drop, length}
use Rattle.cob_store.specs.Size.{sized_either}
use Rattle.cob_store.proofs.size.sizes_back.Given as goal

abbrev pub invariant-loop-at : goal.invariant-loop-at
invariant-loop-at l = record { within : l.at ≤ length l.entries; sizes : l.sizes ≡ (sized_either l.faulty (drop l.at l.entries)).sizes; pieces : l.pieces ≡ (sized_either l.faulty (drop l.at l.entries)).pieces }

abbrev pub decreases-loop-at : goal.decreases-loop-at
decreases-loop-at l = l.at
