use Rattle.std.proofs.Common.{◌≡◌, None, drop}
use Rattle.declaration_checks.specs.FileNames.{selects_from}
use Rattle.declaration_checks.proofs.file.selects_fault.Given as goal

abbrev pub invariant-loop-at : goal.invariant-loop-at
invariant-loop-at l = selects_from l.names l.fault l.at (drop l.at l.selects) ≡ selects_from l.names None 0 l.selects
