use Rattle.std.proofs.Common.{◌≡◌, take}
use Rattle.declaration_checks.specs.FileNames.{described}
use Rattle.declaration_checks.proofs.file_names.described.Given as goal

abbrev pub invariant-loop-fd : goal.invariant-loop-fd
invariant-loop-fd l = l.words ≡ described (take l.fd-index l.fds)
