-- A field with its digits taken apart.
use Rattle.std.specs.Prelude.{◌≡◌, ◌<◌, ◌^◌}
use Rattle.edit_fields.specs.declared.field.Field.{Field}
use Rattle.edit_fields.specs.declared.figure.Figure.TheInside.{Inside}
use Rattle.edit_fields.specs.Field.{numerals}

-- the field of a figure
abbrev pub the_field : Inside → Field
the_field f = f.field

-- its numerals are the digits of its number
pub record IsTakenApart (f : Inside) : Type 0 where
  pub digits : f.numerals ≡ numerals 20 f.field.number
  -- the number has 64 bits
  pub short : f.field.number < 2 ^ 64
