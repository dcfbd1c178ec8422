use Rattle.std.proofs.Common.{◌≡◌, take}
use Rattle.declaration_checks.specs.Declaring.{judge_all}
use Rattle.declaration_checks.proofs.judging.judge_all.Given as goal

abbrev pub invariant-loop-draft : goal.invariant-loop-draft
invariant-loop-draft l = l.found ≡ judge_all l.bases l.sizes l.tables.usages l.fn.judged (take l.draft-index l.drafts)
