use Rattle.std.proofs.Common.{◌≡◌, ◌-◌, ◌^◌, min, max, drop, map}
use Rattle.cob_tree.specs.Depth.{largest, stmt_depth, when_depth}
use Rattle.cob_tree.proofs.depth.+depth.Given as goal

abbrev pub invariant-stmts_depth-loop-stmt : goal.invariant-stmts_depth-loop-stmt
invariant-stmts_depth-loop-stmt l = max l.depth (min (largest (map stmt_depth (drop l.stmt-index l.stmt-items))) (2 ^ 32 - 1)) ≡ min (largest (map stmt_depth l.stmt-items)) (2 ^ 32 - 1)

abbrev pub invariant-whens_depth-loop-when : goal.invariant-whens_depth-loop-when
invariant-whens_depth-loop-when l = max l.depth (min (largest (map when_depth (drop l.when-index l.when-items))) (2 ^ 32 - 1)) ≡ min (largest (map when_depth l.when-items)) (2 ^ 32 - 1)
