use Rattle.std.proofs.Common.{◌≡◌}
use Rattle.cobol_run.proofs.constant_places.statements.+know_stmt.Given as goal

abbrev pub invariant-know_stmts-loop-stmt : goal.invariant-know_stmts-loop-stmt
invariant-know_stmts-loop-stmt l = l.areas ≡ l.initial.areas

abbrev pub invariant-know_whens-loop-when : goal.invariant-know_whens-loop-when
invariant-know_whens-loop-when l = l.areas ≡ l.initial.areas
