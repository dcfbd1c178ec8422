use Rattle.std.proofs.Common.{◌≡◌, drop}
use Rattle.cob_store.specs.ConstantPlace.{are_subs}
use Rattle.cob_store.proofs.constant_place.are_subs.Given as goal

abbrev pub invariant-loop-sub : goal.invariant-loop-sub
invariant-loop-sub l = are_subs (drop l.sub-index l.subs) l.left ≡ are_subs l.subs l.numbers
