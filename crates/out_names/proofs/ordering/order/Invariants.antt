use Rattle.std.proofs.Common.{◌≡◌, ◌<◌, ◌-◌, ◌++◌, length}
use Rattle.std.specs.Prelude.{IfSome}
use Rattle.out_names.specs.Ordering.{order_from, order_of}
use Rattle.out_names.proofs.ordering.order.Given as goal

abbrev pub invariant-loop : goal.invariant-loop
invariant-loop l =
    (l.order ++ order_from (l.end - l.counter) l.calls l.stands.items l.next ≡ order_of l.calls)
    × (length l.stands.items ≡ length l.calls)
    × (0 < length l.calls → IfSome l.next (λ number. number < length l.calls))
