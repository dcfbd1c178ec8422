use Rattle.std.proofs.Common.{◌≡◌, map, take}
use Rattle.declaration_checks.specs.File.{file_of}
use Rattle.declaration_checks.proofs.file.files_of.Given as goal

abbrev pub invariant-loop-select : goal.invariant-loop-select
invariant-loop-select l = l.files ≡ map file_of (take l.select-index l.selects)
