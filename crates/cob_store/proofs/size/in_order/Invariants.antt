use Rattle.std.proofs.Common.{◌≡◌, ◌++◌, length}
use Rattle.cob_store.proofs.size.in_order.Given as goal

abbrev pub invariant-loop-size : goal.invariant-loop-size
invariant-loop-size l = l.sizes ++ l.stack ≡ l.initial.stack

abbrev pub decreases-loop-size : goal.decreases-loop-size
decreases-loop-size l = length l.stack
