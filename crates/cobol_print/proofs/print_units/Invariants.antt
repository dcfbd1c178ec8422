use Rattle.std.proofs.Common.{◌≡◌, ◌++◌, drop}
use Rattle.cobol_print.specs.Layout.{units_bytes}
use Rattle.cobol_print.proofs.print_units.Given as goal

abbrev pub invariant-loop-unit : goal.invariant-loop-unit
invariant-loop-unit l = l.layout.out ++ units_bytes (drop l.unit-index l.units) ≡ units_bytes l.units
