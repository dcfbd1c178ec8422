use Rattle.std.proofs.Common.{◌≡◌, ◌≤◌, ◌+◌, drop}
use Rattle.edit_fields.specs.Edited.{shown_size}
use Rattle.edit_fields.proofs.edited.mask_size.Given as goal

abbrev pub invariant-loop-place : goal.invariant-loop-place
invariant-loop-place l = record {
  within : l.size ≤ l.place;
  same : shown_size l.mask ≡ l.size + shown_size (drop l.place l.mask);
}
