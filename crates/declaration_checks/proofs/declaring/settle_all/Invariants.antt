use Rattle.std.proofs.Common.{◌≡◌, take}
use Rattle.declaration_checks.specs.Declaring.{settle_all}
use Rattle.declaration_checks.proofs.declaring.settle_all.Given as goal

abbrev pub invariant-loop-draft : goal.invariant-loop-draft
invariant-loop-draft l = l.entries ≡ settle_all l.bases l.tables.usages l.initial.entries (take l.draft-index l.drafts)
