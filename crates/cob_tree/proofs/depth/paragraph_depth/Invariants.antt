use Rattle.std.proofs.Common.{◌≡◌, ◌-◌, ◌^◌, min, max, drop, map}
use Rattle.cob_tree.specs.Depth.{largest, sentence_depth}
use Rattle.cob_tree.proofs.depth.paragraph_depth.Given as goal

abbrev pub invariant-loop-sentence : goal.invariant-loop-sentence
invariant-loop-sentence l = max l.depth (min (largest (map sentence_depth (drop l.sentence-index l.sentence-items))) (2 ^ 32 - 1)) ≡ min (largest (map sentence_depth l.sentence-items)) (2 ^ 32 - 1)
