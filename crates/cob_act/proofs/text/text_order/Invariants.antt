use Rattle.std.proofs.Common.{◌≡◌, drop}
use Rattle.meanings.specs.statements.Text.{text_order}
use Rattle.cob_act.proofs.text.text_order.Given as goal

abbrev pub invariant-loop-at : goal.invariant-loop-at
invariant-loop-at l = text_order (drop l.at l.a) l.left ≡ text_order l.a l.b
