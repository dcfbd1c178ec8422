use Rattle.std.proofs.Common.{◌≡◌, drop, length, replicate}
use Rattle.meanings.specs.statements.Text.{text_order}
use Rattle.cob_act.proofs.text.order_filler.Given as goal

abbrev pub invariant-loop-other : goal.invariant-loop-other
invariant-loop-other l = text_order (drop l.other-index l.text) (replicate (length (drop l.other-index l.text)) l.byte) ≡ text_order l.text (replicate (length l.text) l.byte)
