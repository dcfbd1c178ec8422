use Rattle.std.proofs.Common.{◌≡◌, drop, length, replicate}
use Rattle.meanings.specs.statements.Text.{text_order}
use Rattle.cob_act.proofs.text.filler_order.Given as goal

abbrev pub invariant-loop-other : goal.invariant-loop-other
invariant-loop-other l = text_order (replicate (length (drop l.other-index l.text)) l.byte) (drop l.other-index l.text) ≡ text_order (replicate (length l.text) l.byte) l.text
