use Rattle.std.proofs.Common.{◌≡◌, ◌++◌, take}
use Rattle.declaration_checks.specs.Usage.{section_usages}
use Rattle.declaration_checks.proofs.usage.add_usages.Given as goal

abbrev pub invariant-loop-draft : goal.invariant-loop-draft
invariant-loop-draft l = l.owns ≡ l.initial.owns ++ section_usages (take l.draft-index l.drafts)
