use Rattle.std.proofs.Common.{◌≡◌, ◌≤◌, ◌++◌, drop, false}
use Rattle.cobol_print.specs.Line.{column_behind}
use Rattle.cobol_print.specs.Layout.{spread}
use Rattle.cobol_print.proofs.layout.Layout.put_each.Given as goal

abbrev pub invariant-loop-byte : goal.invariant-loop-byte
invariant-loop-byte l = record {
  within : l.self.column ≤ 73;
  column : column_behind l.self.column l.self.inside (drop l.byte-index l.bytes) ≡ column_behind l.fn.self.column false l.bytes;
  out : l.self.out ++ spread l.self.column l.self.inside (drop l.byte-index l.bytes) ≡ l.fn.self.out ++ spread l.fn.self.column false l.bytes;
}
