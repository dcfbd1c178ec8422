-- Pictures that can be written.
use Rattle.std.specs.Prelude.{◌≤◌, ◌+◌}
use Rattle.cob_tree.specs.declared.picture.Picture.{Picture}
use Rattle.cob_tree.specs.declared.picture.Picture.TheVariants.{Number, Letters, Any, Edited}
use Rattle.edit_fields.specs.Mask.{IsHeldMask}

-- 1 to 18 digits, 1 to 65,535 characters, or a mask as a program holds it
abbrev pub IsWritable : Picture → Type 0
IsWritable (Number signed whole part) = (1 ≤ whole + part) × (whole + part ≤ 18)
IsWritable (Letters count) = (1 ≤ count) × (count ≤ 65535)
IsWritable (Any count) = (1 ≤ count) × (count ≤ 65535)
IsWritable (Edited mask) = IsHeldMask mask
