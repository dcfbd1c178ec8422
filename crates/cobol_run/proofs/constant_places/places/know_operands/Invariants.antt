use Rattle.std.proofs.Common.{◌≡◌}
use Rattle.cobol_run.proofs.constant_places.places.know_operands.Given as goal

abbrev pub invariant-loop-operand : goal.invariant-loop-operand
invariant-loop-operand l = l.areas ≡ l.initial.areas
