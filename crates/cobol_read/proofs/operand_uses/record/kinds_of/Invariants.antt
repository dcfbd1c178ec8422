use Rattle.std.proofs.Common.{◌≡◌, ◌<◌, ◌≤◌, ℕ, drop, get_or, length}
use Rattle.cobol_grammar.specs.declared.expr_forms.side.ValueKind.{ValueKind}
use Rattle.cobol_grammar.specs.Use.{record_kind}
use Rattle.cobol_read.proofs.operand_uses.record.kinds_of.Given as goal

abbrev pub invariant-loop-at : goal.invariant-loop-at
invariant-loop-at l = record {
  within : l.at ≤ length l.entries;
  kinds : (file : ℕ) → (other : ValueKind) → file < length l.kinds.items → get_or l.kinds.items file other ≡ record_kind (drop l.at l.entries) file;
}

abbrev pub decreases-loop-at : goal.decreases-loop-at
decreases-loop-at l = l.at
