use Rattle.std.proofs.Common.{◌≡◌, drop}
use Rattle.cob_store.specs.Place.{memory_of}
use Rattle.meanings.specs.statements.Arithmetic.{sum_on}
use Rattle.cob_act.proofs.arithmetic.summed.Given as goal

abbrev pub invariant-loop-operand : goal.invariant-loop-operand
invariant-loop-operand l = sum_on (memory_of l.areas l.store) l.total (drop l.operand-index l.others) ≡ sum_on (memory_of l.areas l.store) l.initial.total l.others
