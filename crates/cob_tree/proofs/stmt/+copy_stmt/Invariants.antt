use Rattle.std.proofs.Common.{◌≡◌, take}
use Rattle.cob_tree.proofs.stmt.+copy_stmt.Given as goal

abbrev pub invariant-copy_stmts-loop-stmt : goal.invariant-copy_stmts-loop-stmt
invariant-copy_stmts-loop-stmt l = l.copies ≡ take l.stmt-index l.stmt-items

abbrev pub invariant-copy_whens-loop-when : goal.invariant-copy_whens-loop-when
invariant-copy_whens-loop-when l = l.copies ≡ take l.when-index l.when-items
