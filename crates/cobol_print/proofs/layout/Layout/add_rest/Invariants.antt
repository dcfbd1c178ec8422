use Rattle.std.proofs.Common.{◌≡◌, ◌≤◌, ◌++◌, drop}
use Rattle.cobol_print.specs.Layout.{rest_bytes}
use Rattle.cobol_print.proofs.layout.Layout.add_rest.Given as goal

abbrev pub invariant-loop-token : goal.invariant-loop-token
invariant-loop-token l = record {
  within : l.self.column ≤ 73;
  out : l.self.out ++ rest_bytes l.margin l.self.column l.clinging (drop l.token-index l.tokens) ≡ l.fn.self.out ++ rest_bytes l.margin l.fn.self.column l.initial.clinging l.tokens;
}
