use Rattle.std.proofs.Common.{◌≡◌, ◌+◌, ◌++◌, true, length, take, drop}
use Rattle.edit_fields.specs.Edited.{shown_size}
use Rattle.edit_fields.specs.LightPen.{light_start, light_written}
use Rattle.edit_fields.proofs.EditedLemmas.{light}
use Rattle.edit_fields.proofs.edited.write_shown.Given as goal

abbrev pub invariant-loop-place : goal.invariant-loop-place
invariant-loop-place l = record {
  bytes : light_written l.figure (light_start l.figure) l.mask ≡ take l.at l.into ++ light_written l.figure (light l.last l.right l.begun true) (drop l.place l.mask);
  room : l.at + shown_size (drop l.place l.mask) ≡ length l.into;
}
