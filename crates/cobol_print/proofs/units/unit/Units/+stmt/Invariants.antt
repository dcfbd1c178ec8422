use Rattle.std.proofs.Common.{◌≡◌, ◌++◌, drop, map, length}
use Rattle.cobol_print.specs.units.Statement.{some_lines, stmt_lines, when_lines, whens_lines}
use Rattle.cobol_print.proofs.units.unit.Units.+stmt.Given as goal

abbrev pub invariant-list-loop-stmt : goal.invariant-list-loop-stmt
invariant-list-loop-stmt l = record {
  left : l.left ≡ length (drop l.stmt-index l.stmt-items);
  lines : l.self ++ some_lines (map (stmt_lines l.program) (drop l.stmt-index l.stmt-items)) l.column l.closed
      ≡ l.initial.self ++ some_lines (map (stmt_lines l.program) l.stmt-items) l.column l.closed;
}

abbrev pub invariant-whens-loop-when : goal.invariant-whens-loop-when
invariant-whens-loop-when l =
    l.self ++ whens_lines (map (when_lines l.program) (drop l.when-index l.when-items)) l.column
    ≡ l.initial.self ++ whens_lines (map (when_lines l.program) l.when-items) l.column
