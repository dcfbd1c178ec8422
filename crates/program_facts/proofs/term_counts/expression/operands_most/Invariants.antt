use Rattle.std.proofs.Common.{◌≡◌, ◌-◌, ◌^◌, min, max, drop, map}
use Rattle.cob_tree.specs.Depth.{largest}
use Rattle.program_facts.specs.term_counts.Expression.{operand_most}
use Rattle.program_facts.proofs.term_counts.expression.operands_most.Given as goal

abbrev pub invariant-loop-operand : goal.invariant-loop-operand
invariant-loop-operand l =
    max l.most (min (largest (map operand_most (drop l.operand-index l.operands))) (2 ^ 32 - 1))
    ≡ min (largest (map operand_most l.operands)) (2 ^ 32 - 1)
