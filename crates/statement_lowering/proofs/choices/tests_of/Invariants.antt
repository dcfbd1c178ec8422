use Rattle.std.proofs.Common.{◌≡◌, take}
use Rattle.statement_lowering.specs.Arms.{when_tests}
use Rattle.statement_lowering.proofs.choices.tests_of.Given as goal

abbrev pub invariant-loop-when : goal.invariant-loop-when
invariant-loop-when l = l.tests ≡ when_tests (take l.when-index l.whens)
