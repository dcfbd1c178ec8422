use Rattle.std.proofs.Common.{◌≡◌, drop}
use Rattle.edit_fields.specs.Field.{shape_from, shape_of}
use Rattle.edit_fields.proofs.field.shape_of.Given as goal

abbrev pub invariant-loop-place : goal.invariant-loop-place
invariant-loop-place l = shape_of l.mask ≡ shape_from l.shape (drop l.place l.mask)
