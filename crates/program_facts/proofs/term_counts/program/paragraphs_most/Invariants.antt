use Rattle.std.proofs.Common.{◌≡◌, ◌-◌, ◌^◌, min, max, drop, map}
use Rattle.cob_tree.specs.Depth.{largest}
use Rattle.program_facts.specs.term_counts.Program.{paragraph_most}
use Rattle.program_facts.proofs.term_counts.program.paragraphs_most.Given as goal

abbrev pub invariant-loop-paragraph : goal.invariant-loop-paragraph
invariant-loop-paragraph l =
    max l.most (min (largest (map paragraph_most (drop l.paragraph-index l.paragraphs))) (2 ^ 32 - 1))
    ≡ min (largest (map paragraph_most l.paragraphs)) (2 ^ 32 - 1)
