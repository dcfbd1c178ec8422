use Rattle.std.proofs.Common.{◌≡◌, take}
use Rattle.cob_store.specs.sizes.Storage.{roots_of}
use Rattle.cob_store.proofs.sizes.storage.roots_of.Given as goal

abbrev pub invariant-loop-entry : goal.invariant-loop-entry
invariant-loop-entry l = l.roots ≡ roots_of l.sizes (take l.entry-index l.entries)
