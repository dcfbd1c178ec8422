use Rattle.std.proofs.Common.{◌≡◌, take}
use Rattle.declaration_checks.specs.Value.{spans_fault}
use Rattle.declaration_checks.proofs.value.spans_fault.Given as goal

abbrev pub invariant-loop-span : goal.invariant-loop-span
invariant-loop-span l = l.fault ≡ spans_fault l.target (take l.span-index l.spans)
