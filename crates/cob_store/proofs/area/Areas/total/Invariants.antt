use Rattle.std.proofs.Common.{◌≡◌, ◌^◌, ◌-◌, min, sum, take}
use Rattle.cob_store.proofs.area.Areas.total.Given as goal

abbrev pub invariant-loop-size : goal.invariant-loop-size
invariant-loop-size l = l.total ≡ min (sum (take l.size-index l.self.roots)) (2 ^ 64 - 1)
