use Rattle.std.proofs.Common.{◌≡◌, drop}
use Rattle.struct_form.specs.Nested.{stmts_nest, whens_nest}
use Rattle.struct_form.proofs.nested.+nests.Given as goal

abbrev pub invariant-stmts_nest-loop-stmt : goal.invariant-stmts_nest-loop-stmt
invariant-stmts_nest-loop-stmt l = stmts_nest l.count l.here (drop l.stmt-index l.stmt-items) ≡ stmts_nest l.count l.here l.stmt-items

abbrev pub invariant-whens_nest-loop-when : goal.invariant-whens_nest-loop-when
invariant-whens_nest-loop-when l = whens_nest l.count l.here (drop l.when-index l.when-items) ≡ whens_nest l.count l.here l.when-items
