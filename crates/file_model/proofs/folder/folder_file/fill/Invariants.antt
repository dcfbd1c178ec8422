use Rattle.std.proofs.Common.{◌≡◌, ◌≤◌}
use Rattle.file_model.proofs.folder.folder_file.fill.Given as goal

abbrev pub invariant-loop : goal.invariant-loop
invariant-loop g l = (l.count ≤ l.size) × (l.count ≡ 0 → l.into ≡ l.initial.into)
