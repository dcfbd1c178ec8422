use Rattle.std.proofs.Common.{◌≡◌, ◌++◌, drop}
use Rattle.std.specs.List.{flat_map}
use Rattle.meanings.specs.plain.World.{operand_bytes}
use Rattle.meanings.proofs.plain.next.displayed.Given as goal

abbrev pub invariant-loop-operand : goal.invariant-loop-operand
invariant-loop-operand l = l.bytes ++ flat_map operand_bytes (drop l.operand-index l.operand-items) ≡ flat_map operand_bytes l.operand-items
