use Rattle.std.proofs.Common.{◌≡◌, length}
use Rattle.pending_returns.specs.levels.Reach.{IsMarked}
use Rattle.pending_returns.proofs.Leveling.{AddsFirst}
use Rattle.pending_returns.proofs.calling.visit_calls.Given as goal

abbrev pub invariant-loop-call : goal.invariant-loop-call
invariant-loop-call l = record {
  adds : AddsFirst l.calls l.call-index l.fn.reach.places.items l.reach.places.items;
  marked : IsMarked l.reach.places.items l.reach.marks.items;
  size : length l.reach.marks.items ≡ length l.fn.reach.marks.items;
}
