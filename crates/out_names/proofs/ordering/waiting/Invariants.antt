use Rattle.std.proofs.Common.{◌≡◌, ℕ, ◌<◌, length, drop, false, ◌||◌, get_or}
use Rattle.out_names.specs.Ordering.{waits}
use Rattle.out_names.proofs.ordering.waiting.Given as goal

abbrev pub invariant-loop-at : goal.invariant-loop-at
invariant-loop-at l =
    (length l.marks.items ≡ length l.calls)
    × ((k : ℕ) → k < length l.calls → (get_or l.marks.items k false || waits (drop l.at l.calls) (drop l.at l.stands) k) ≡ waits l.calls l.stands k)
