use Rattle.std.proofs.Common.{◌≡◌, [], drop, map}
use Rattle.cob_store.specs.Place.{memory_of, sub_value, offsets_behind}
use Rattle.cob_store.proofs.place.+reach.Given as goal

abbrev pub invariant-subscripted-loop-sub : goal.invariant-subscripted-loop-sub
invariant-subscripted-loop-sub l = record { room : l.offsets.capacity ≡ 3; same : offsets_behind (memory_of l.areas l.store) l.offsets.items (map sub_value (drop l.sub-index l.subs)) l.left ≡ offsets_behind (memory_of l.areas l.store) [] (map sub_value l.subs) l.dims }
