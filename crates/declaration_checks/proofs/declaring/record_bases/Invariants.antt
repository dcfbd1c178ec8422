use Rattle.std.proofs.Common.{◌≡◌, ◌++◌, drop}
use Rattle.declaration_checks.specs.Declaring.{record_bases}
use Rattle.declaration_checks.proofs.declaring.record_bases.Given as goal

abbrev pub invariant-loop-at : goal.invariant-loop-at
invariant-loop-at l = l.bases ++ record_bases l.selects l.at (drop l.at l.fds) ≡ record_bases l.selects 0 l.fds
