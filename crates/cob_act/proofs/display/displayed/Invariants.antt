use Rattle.std.proofs.Common.{◌≡◌, [], drop}
use Rattle.cob_store.specs.Place.{memory_of}
use Rattle.meanings.specs.statements.Display.{shown_on}
use Rattle.cob_act.proofs.display.displayed.Given as goal

abbrev pub invariant-loop-operand : goal.invariant-loop-operand
invariant-loop-operand l = shown_on (memory_of l.areas l.store) l.into (drop l.operand-index l.operands) ≡ shown_on (memory_of l.areas l.store) [] l.operands
