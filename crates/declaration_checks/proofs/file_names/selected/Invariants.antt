use Rattle.std.proofs.Common.{◌≡◌, take}
use Rattle.declaration_checks.specs.FileNames.{selected}
use Rattle.declaration_checks.proofs.file_names.selected.Given as goal

abbrev pub invariant-loop-select : goal.invariant-loop-select
invariant-loop-select l = l.words ≡ selected (take l.select-index l.selects)
