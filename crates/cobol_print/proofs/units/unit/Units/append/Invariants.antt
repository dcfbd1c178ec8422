use Rattle.std.proofs.Common.{◌≡◌, ◌++◌}
use Rattle.std.specs.Vec.Iter.{into_iter_items}
use Rattle.cobol_print.proofs.units.unit.Units.append.Given as goal

abbrev pub invariant-loop-unit : goal.invariant-loop-unit
invariant-loop-unit l =
    l.self ++ into_iter_items l.unit-iterator ≡ l.initial.self ++ into_iter_items l.initial.unit-iterator
