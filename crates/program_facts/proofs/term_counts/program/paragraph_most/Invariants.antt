use Rattle.std.proofs.Common.{◌≡◌, ◌-◌, ◌^◌, min, max, drop, map}
use Rattle.cob_tree.specs.Depth.{largest}
use Rattle.program_facts.specs.term_counts.Program.{sentence_most}
use Rattle.program_facts.proofs.term_counts.program.paragraph_most.Given as goal

abbrev pub invariant-loop-sentence : goal.invariant-loop-sentence
invariant-loop-sentence l =
    max l.most (min (largest (map sentence_most (drop l.sentence-index l.sentence-items))) (2 ^ 32 - 1))
    ≡ min (largest (map sentence_most l.sentence-items)) (2 ^ 32 - 1)
