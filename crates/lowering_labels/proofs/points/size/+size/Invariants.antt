use Rattle.std.proofs.Common.{◌≡◌, ◌-◌, ◌^◌, min, take, sum_by}
use Rattle.cob_tree.specs.Places.{stmt_places, when_places}
use Rattle.lowering_labels.proofs.points.size.+size.Given as goal

abbrev pub invariant-stmts_size-loop-stmt : goal.invariant-stmts_size-loop-stmt
invariant-stmts_size-loop-stmt l = l.count ≡ min (sum_by stmt_places (take l.stmt-index l.stmts)) (2 ^ 64 - 1)

abbrev pub invariant-whens_size-loop-when : goal.invariant-whens_size-loop-when
invariant-whens_size-loop-when l = l.count ≡ min (sum_by when_places (take l.when-index l.whens)) (2 ^ 64 - 1)
