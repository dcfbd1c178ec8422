use Rattle.std.proofs.Common.{◌≡◌, ◌++◌, drop}
use Rattle.declaration_checks.specs.Usage.{record_usages}
use Rattle.declaration_checks.proofs.usage.record_usages.Given as goal

abbrev pub invariant-loop-fd : goal.invariant-loop-fd
invariant-loop-fd l = l.owns ++ record_usages (drop l.fd-index l.fds) ≡ record_usages l.fds
