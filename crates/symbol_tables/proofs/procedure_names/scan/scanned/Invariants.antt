use Rattle.std.proofs.Common.{◌≡◌, ◌+◌, ◌-◌, ◌≤◌, true, length}
use Rattle.symbol_tables.specs.procedure_names.Procedures as procedures
use Rattle.symbol_tables.proofs.procedure_names.scan.scanned.Given as goal

abbrev pub invariant-tokens : goal.invariant-tokens
invariant-tokens l = record {
  same : procedures.scanned l.rest l.may_head l.index l.scan ≡ procedures.scanned l.tokens true l.from procedures.start;
  left : l.index + length l.rest ≡ l.from + length l.tokens;
  behind : l.from ≤ l.index;
  within : procedures.IsWithin (l.index - l.from) l.scan;
}

abbrev pub decreases-tokens : goal.decreases-tokens
decreases-tokens l = length l.rest
