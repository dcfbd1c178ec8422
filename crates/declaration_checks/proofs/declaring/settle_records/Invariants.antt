use Rattle.std.proofs.Common.{◌≡◌, [], take}
use Rattle.std.specs.List.{fold}
use Rattle.declaration_checks.specs.Declaring.{settle_records}
use Rattle.declaration_checks.proofs.declaring.settle_records.Given as goal

abbrev pub invariant-loop-fd : goal.invariant-loop-fd
invariant-loop-fd l = l.entries ≡ fold (settle_records l.bases l.tables.usages) [] (take l.fd-index l.fds)
