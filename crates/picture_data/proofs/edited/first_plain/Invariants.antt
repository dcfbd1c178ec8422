use Rattle.std.proofs.Common.{◌≡◌, drop}
use Rattle.picture_data.specs.Edited.{first_plain}
use Rattle.picture_data.proofs.edited.first_plain.Given as goal

abbrev pub invariant-loop-before : goal.invariant-loop-before
invariant-loop-before l = first_plain 0 l.text ≡ first_plain l.before (drop l.before l.text)
