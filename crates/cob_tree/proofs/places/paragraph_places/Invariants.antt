use Rattle.std.proofs.Common.{◌≡◌, ◌+◌, ◌-◌, ◌^◌, min, take, sum_by}
use Rattle.cob_tree.specs.Places.{sentence_places}
use Rattle.cob_tree.proofs.places.paragraph_places.Given as goal

abbrev pub invariant-loop-sentence : goal.invariant-loop-sentence
invariant-loop-sentence l = l.count ≡ min (1 + sum_by sentence_places (take l.sentence-index l.sentence-items)) (2 ^ 64 - 1)
