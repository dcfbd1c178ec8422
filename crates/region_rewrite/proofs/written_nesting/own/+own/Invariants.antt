use Rattle.std.proofs.Common.{◌≡◌, ◌-◌, ◌^◌, min, max, drop, map}
use Rattle.cob_tree.specs.Depth.{largest}
use Rattle.region_rewrite.specs.written_nesting.Own.{own_nesting, when_own}
use Rattle.region_rewrite.proofs.written_nesting.own.+own.Given as goal

abbrev pub invariant-stmts_own-loop-stmt : goal.invariant-stmts_own-loop-stmt
invariant-stmts_own-loop-stmt l =
    max l.depth (min (largest (map own_nesting (drop l.stmt-index l.stmt-items))) (2 ^ 32 - 1))
    ≡ min (largest (map own_nesting l.stmt-items)) (2 ^ 32 - 1)

abbrev pub invariant-whens_own-loop-when : goal.invariant-whens_own-loop-when
invariant-whens_own-loop-when l =
    max l.depth (min (largest (map when_own (drop l.when-index l.when-items))) (2 ^ 32 - 1))
    ≡ min (largest (map when_own l.when-items)) (2 ^ 32 - 1)
