use Rattle.std.proofs.Common.{◌≡◌, ◌-◌, ◌^◌, min, max, drop, map}
use Rattle.cob_tree.specs.Depth.{largest}
use Rattle.program_facts.specs.term_counts.Expression.{place_most}
use Rattle.program_facts.proofs.term_counts.expression.places_most.Given as goal

abbrev pub invariant-loop-place : goal.invariant-loop-place
invariant-loop-place l =
    max l.most (min (largest (map place_most (drop l.place-index l.places))) (2 ^ 32 - 1))
    ≡ min (largest (map place_most l.places)) (2 ^ 32 - 1)
