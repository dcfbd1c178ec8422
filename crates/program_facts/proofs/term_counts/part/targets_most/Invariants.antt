use Rattle.std.proofs.Common.{◌≡◌, ◌-◌, ◌^◌, min, max, drop, map}
use Rattle.cob_tree.specs.Depth.{largest}
use Rattle.program_facts.specs.term_counts.Part.{target_most}
use Rattle.program_facts.proofs.term_counts.part.targets_most.Given as goal

abbrev pub invariant-loop-target : goal.invariant-loop-target
invariant-loop-target l =
    max l.most (min (largest (map target_most (drop l.target-index l.targets))) (2 ^ 32 - 1))
    ≡ min (largest (map target_most l.targets)) (2 ^ 32 - 1)
