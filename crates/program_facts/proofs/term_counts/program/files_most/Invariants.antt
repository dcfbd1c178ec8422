use Rattle.std.proofs.Common.{◌≡◌, ◌-◌, ◌^◌, min, max, drop, map}
use Rattle.cob_tree.specs.Depth.{largest}
use Rattle.program_facts.specs.term_counts.Program.{file_most}
use Rattle.program_facts.proofs.term_counts.program.files_most.Given as goal

abbrev pub invariant-loop-file : goal.invariant-loop-file
invariant-loop-file l =
    max l.most (min (largest (map file_most (drop l.file-index l.files))) (2 ^ 32 - 1))
    ≡ min (largest (map file_most l.files)) (2 ^ 32 - 1)
