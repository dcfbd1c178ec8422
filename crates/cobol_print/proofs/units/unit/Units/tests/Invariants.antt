use Rattle.std.proofs.Common.{◌≡◌, ◌++◌, drop}
use Rattle.cobol_print.specs.units.Statement.{tests_lines}
use Rattle.cobol_print.proofs.units.unit.Units.tests.Given as goal

abbrev pub invariant-loop-test : goal.invariant-loop-test
invariant-loop-test l =
    l.self ++ tests_lines l.program l.column (drop l.test-index l.tests)
    ≡ l.initial.self ++ tests_lines l.program l.column l.tests
