use Rattle.std.proofs.Common.{◌≡◌, ◌-◌, ◌^◌, min, max, drop, map}
use Rattle.cob_tree.specs.Depth.{largest}
use Rattle.program_facts.specs.term_counts.Part.{test_most}
use Rattle.program_facts.proofs.term_counts.part.tests_most.Given as goal

abbrev pub invariant-loop-test : goal.invariant-loop-test
invariant-loop-test l =
    max l.most (min (largest (map test_most (drop l.test-index l.tests))) (2 ^ 32 - 1))
    ≡ min (largest (map test_most l.tests)) (2 ^ 32 - 1)
