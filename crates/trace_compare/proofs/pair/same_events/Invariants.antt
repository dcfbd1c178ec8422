use Rattle.trace_compare.specs.Side.{pending_of}
use Rattle.trace_compare.proofs.NextLemmas.{FoundTo}
use Rattle.trace_compare.proofs.pair.same_events.Given as goal

abbrev pub invariant-loop-at : goal.invariant-loop-at
invariant-loop-at l = FoundTo (pending_of l.first) (pending_of l.second) l.at
