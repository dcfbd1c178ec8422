use Rattle.std.proofs.Common.{◌≡◌, ◌+◌, ◌++◌, length, take, drop}
use Rattle.edit_fields.specs.Edited.{shown_size}
use Rattle.edit_fields.specs.LightPen.{blank_written}
use Rattle.edit_fields.proofs.edited.write_blank.Given as goal

abbrev pub invariant-loop-place : goal.invariant-loop-place
invariant-loop-place l = record {
  bytes : blank_written l.field l.mask ≡ take l.at l.into ++ blank_written l.field (drop l.place l.mask);
  room : l.at + shown_size (drop l.place l.mask) ≡ length l.into;
}
