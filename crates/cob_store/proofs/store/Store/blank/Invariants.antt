use Rattle.std.proofs.Common.{◌≡◌, take}
use Rattle.cob_store.specs.Store.{blank}
use Rattle.cob_store.proofs.store.Store.blank.Given as goal

abbrev pub invariant-loop-size : goal.invariant-loop-size
invariant-loop-size l = l.roots.items ≡ blank (take l.size-index l.sizes)
