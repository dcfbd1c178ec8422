use Rattle.std.proofs.Common.{◌≡◌, take}
use Rattle.declaration_checks.specs.Base.{number_of}
use Rattle.declaration_checks.proofs.base.number_of.Given as goal

abbrev pub invariant-loop-digit : goal.invariant-loop-digit
invariant-loop-digit l = l.number ≡ number_of (take l.digit-index l.digits)
