use Rattle.std.proofs.Common.{◌≡◌, take}
use Rattle.std.specs.List.{fold}
use Rattle.declaration_checks.specs.Declaring.{judge_records}
use Rattle.declaration_checks.proofs.judging.judge_records.Given as goal

abbrev pub invariant-loop-fd : goal.invariant-loop-fd
invariant-loop-fd l = l.found ≡ fold (judge_records l.bases l.sizes l.tables.usages) l.fn.judged (take l.fd-index l.fds)
