use Rattle.std.proofs.Common.{◌≡◌}
use Rattle.cobol_run.proofs.constant_places.statements.know_targets.Given as goal

abbrev pub invariant-loop-target : goal.invariant-loop-target
invariant-loop-target l = l.areas ≡ l.initial.areas
