use Rattle.std.proofs.Common.{◌≡◌, ◌++◌, drop}
use Rattle.procedure_split.specs.Placing.{places_from}
use Rattle.procedure_split.proofs.placing.places_from.Given as goal

abbrev pub invariant-loop-range : goal.invariant-loop-range
invariant-loop-range l =
    l.places.items ++ places_from l.place (drop l.range-index l.order) ≡ places_from 0 l.order
