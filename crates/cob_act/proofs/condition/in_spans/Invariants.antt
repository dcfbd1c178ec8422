use Rattle.std.proofs.Common.{◌≡◌, drop}
use Rattle.cob_store.specs.Place.{memory_of}
use Rattle.meanings.specs.statements.Condition.{in_spans}
use Rattle.cob_act.specs.Side.{seen}
use Rattle.cob_act.proofs.condition.in_spans.Given as goal

abbrev pub invariant-loop-span : goal.invariant-loop-span
invariant-loop-span l = in_spans (memory_of l.areas l.store) (seen l.side) (drop l.span-index l.spans) ≡ in_spans (memory_of l.areas l.store) (seen l.side) l.spans
