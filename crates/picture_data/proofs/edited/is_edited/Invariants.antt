use Rattle.std.proofs.Common.{◌≡◌, drop}
use Rattle.picture_data.specs.Edited.{is_edited, is_edited_from}
use Rattle.picture_data.proofs.edited.is_edited.Given as goal

abbrev pub invariant-loop-place : goal.invariant-loop-place
invariant-loop-place l = is_edited l.text ≡ is_edited_from l.counts (drop l.place l.text)
