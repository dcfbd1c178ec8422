use Rattle.std.proofs.Common.{◌≡◌, ◌-◌, ◌^◌, min, max, drop, map}
use Rattle.cob_tree.specs.Depth.{largest}
use Rattle.program_facts.specs.term_counts.Statement.{stmt_most, when_most}
use Rattle.program_facts.proofs.term_counts.statement.+most.Given as goal

abbrev pub invariant-stmts_most-loop-stmt : goal.invariant-stmts_most-loop-stmt
invariant-stmts_most-loop-stmt l =
    max l.most (min (largest (map stmt_most (drop l.stmt-index l.stmt-items))) (2 ^ 32 - 1))
    ≡ min (largest (map stmt_most l.stmt-items)) (2 ^ 32 - 1)

abbrev pub invariant-whens_most-loop-when : goal.invariant-whens_most-loop-when
invariant-whens_most-loop-when l =
    max l.most (min (largest (map when_most (drop l.when-index l.when-items))) (2 ^ 32 - 1))
    ≡ min (largest (map when_most l.when-items)) (2 ^ 32 - 1)
