use Rattle.std.proofs.Common.{◌≡◌, ◌+◌, length, drop}
use Rattle.cobol_print.specs.Unit.{all_tokens}
use Rattle.restructure_core.proofs.limit.token_count.Given as goal

abbrev pub invariant-loop-unit : goal.invariant-loop-unit
invariant-loop-unit l = l.count + length (all_tokens (drop l.unit-index l.units)) ≡ length (all_tokens l.units)
