use Rattle.std.proofs.Common.{◌≡◌, ◌^◌, ◌-◌, min, sum, take}
use Rattle.cob_store.proofs.sizes.storage.total.Given as goal

abbrev pub invariant-loop-size : goal.invariant-loop-size
invariant-loop-size l = l.total ≡ min (sum (take l.size-index l.sizes)) (2 ^ 64 - 1)
