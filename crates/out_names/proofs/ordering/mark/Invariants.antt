use Rattle.std.proofs.Common.{◌≡◌, ℕ, ◌<◌, length, drop, false, ◌||◌, get_or}
use Rattle.out_names.specs.Ordering.{calls_it}
use Rattle.out_names.proofs.ordering.mark.Given as goal

abbrev pub invariant-loop-callee : goal.invariant-loop-callee
invariant-loop-callee l =
    (length l.marks ≡ length l.fn.marks)
    × ((k : ℕ) → k < length l.fn.marks → (get_or l.marks k false || calls_it k (drop l.callee-index l.callees)) ≡ (get_or l.fn.marks k false || calls_it k l.callees))
