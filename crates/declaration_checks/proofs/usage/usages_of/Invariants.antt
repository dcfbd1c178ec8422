use Rattle.std.proofs.Common.{◌≡◌, take}
use Rattle.declaration_checks.specs.Usage.{usages_of}
use Rattle.declaration_checks.proofs.usage.usages_of.Given as goal

abbrev pub invariant-loop-own : goal.invariant-loop-own
invariant-loop-own l = l.usages ≡ usages_of l.bases (take l.own-index l.owns)
