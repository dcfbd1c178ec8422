use Rattle.std.proofs.Common.{◌≡◌, ◌++◌, drop}
use Rattle.program_points.specs.perform_ranges.Named.{named_stmts, named_whens}
use Rattle.program_points.proofs.perform_ranges.named.+named.Given as goal

abbrev pub invariant-named_stmts-loop-stmt : goal.invariant-named_stmts-loop-stmt
invariant-named_stmts-loop-stmt l = l.found.items ++ named_stmts (drop l.stmt-index l.stmt-items) ≡ l.fn.found.items ++ named_stmts l.stmt-items

abbrev pub invariant-named_whens-loop-when : goal.invariant-named_whens-loop-when
invariant-named_whens-loop-when l = l.found.items ++ named_whens (drop l.when-index l.when-items) ≡ l.fn.found.items ++ named_whens l.when-items
