use Rattle.std.proofs.Common.{◌≡◌, ◌-◌, ◌^◌, min, max, drop, map}
use Rattle.cob_tree.specs.Depth.{largest, paragraph_depth}
use Rattle.cob_tree.proofs.program.Program.depth.Given as goal

abbrev pub invariant-loop-paragraph : goal.invariant-loop-paragraph
invariant-loop-paragraph l = max l.depth (min (largest (map paragraph_depth (drop l.paragraph-index l.paragraph-items))) (2 ^ 32 - 1)) ≡ min (largest (map paragraph_depth l.paragraph-items)) (2 ^ 32 - 1)
