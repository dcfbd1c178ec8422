use Rattle.std.proofs.Common.{◌≡◌, Ok, drop}
use Rattle.picture_data.specs.Reading.{plain_picture, read_from}
use Rattle.picture_data.proofs.reading.plain_picture.Given as goal

abbrev pub invariant-loop-before : goal.invariant-loop-before
invariant-loop-before l = plain_picture l.text ≡ read_from l.before (Ok l.reading) (drop l.before l.text)
