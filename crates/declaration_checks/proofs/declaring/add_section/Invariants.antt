use Rattle.std.proofs.Common.{◌≡◌, ◌++◌, take}
use Rattle.declaration_checks.specs.Declaring.{section_bases}
use Rattle.declaration_checks.proofs.declaring.add_section.Given as goal

abbrev pub invariant-loop-draft : goal.invariant-loop-draft
invariant-loop-draft l = l.bases ≡ l.initial.bases ++ section_bases l.file (take l.draft-index l.drafts)
