use Rattle.std.proofs.Common.{◌≡◌, ◌-◌, ◌^◌, min, take, sum_by}
use Rattle.cob_tree.specs.Places.{paragraph_places}
use Rattle.cob_tree.proofs.program.Program.places.Given as goal

abbrev pub invariant-loop-paragraph : goal.invariant-loop-paragraph
invariant-loop-paragraph l = l.count ≡ min (sum_by paragraph_places (take l.paragraph-index l.paragraph-items)) (2 ^ 64 - 1)
