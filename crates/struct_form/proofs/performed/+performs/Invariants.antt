use Rattle.std.proofs.Common.{◌≡◌, drop}
use Rattle.struct_form.specs.Performed.{stmts_perform, whens_perform}
use Rattle.struct_form.proofs.performed.+performs.Given as goal

abbrev pub invariant-stmts_perform-loop-stmt : goal.invariant-stmts_perform-loop-stmt
invariant-stmts_perform-loop-stmt l = stmts_perform l.number (drop l.stmt-index l.stmt-items) ≡ stmts_perform l.number l.stmt-items

abbrev pub invariant-whens_perform-loop-when : goal.invariant-whens_perform-loop-when
invariant-whens_perform-loop-when l = whens_perform l.number (drop l.when-index l.when-items) ≡ whens_perform l.number l.when-items
