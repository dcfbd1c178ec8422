use Rattle.std.proofs.Common.{◌≡◌, None, drop}
use Rattle.declaration_checks.specs.FileNames.{fds_from}
use Rattle.declaration_checks.proofs.file.fds_fault.Given as goal

abbrev pub invariant-loop-at : goal.invariant-loop-at
invariant-loop-at l = fds_from l.names l.fault l.at (drop l.at l.fds) ≡ fds_from l.names None 0 l.fds
