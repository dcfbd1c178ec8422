use Rattle.std.proofs.Common.{◌≡◌, ◌++◌, drop}
use Rattle.cobol_print.specs.units.Division.{entries_units}
use Rattle.cobol_print.proofs.units.unit.Units.entries.Given as goal

abbrev pub invariant-loop-entry : goal.invariant-loop-entry
invariant-loop-entry l =
    l.self ++ entries_units l.program l.before (drop l.entry-index l.entries)
    ≡ l.initial.self ++ entries_units l.program l.initial.before l.entries
