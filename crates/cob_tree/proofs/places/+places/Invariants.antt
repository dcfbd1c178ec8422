use Rattle.std.proofs.Common.{◌≡◌, ◌-◌, ◌^◌, min, take, sum_by}
use Rattle.cob_tree.specs.Places.{stmt_places, when_places}
use Rattle.cob_tree.proofs.places.+places.Given as goal

abbrev pub invariant-stmts_places-loop-stmt : goal.invariant-stmts_places-loop-stmt
invariant-stmts_places-loop-stmt l = l.count ≡ min (sum_by stmt_places (take l.stmt-index l.stmt-items)) (2 ^ 64 - 1)

abbrev pub invariant-whens_places-loop-when : goal.invariant-whens_places-loop-when
invariant-whens_places-loop-when l = l.count ≡ min (sum_by when_places (take l.when-index l.when-items)) (2 ^ 64 - 1)
