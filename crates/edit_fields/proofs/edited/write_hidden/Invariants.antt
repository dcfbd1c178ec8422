use Rattle.std.proofs.Common.{◌≡◌, ◌+◌, ◌≤◌, ◌++◌, true, false, length, slice_get, drop}
use Rattle.edit_fields.specs.Edited.{shown_size}
use Rattle.edit_fields.specs.LightPen.{light_shows, light_start, light_written}
use Rattle.edit_fields.proofs.EditedLemmas.{EndsHidden, left_of, light}
use Rattle.edit_fields.proofs.edited.write_hidden.Given as goal

abbrev pub invariant-loop-place : goal.invariant-loop-place
invariant-loop-place l =
    let pen = light l.last l.right l.begun false in
    let rest = drop l.place l.mask in
    record {
      bytes : light_written l.figure (light_start l.figure) l.mask ≡ left_of l.figure l.begun (light_shows l.figure pen (slice_get rest 0)) l.place l.into ++ light_written l.figure pen rest;
      ends : EndsHidden l.figure l.begun l.place l.into;
      some : l.begun ≡ true → 1 ≤ l.place;
      room : l.place + shown_size rest ≡ length l.into;
    }
