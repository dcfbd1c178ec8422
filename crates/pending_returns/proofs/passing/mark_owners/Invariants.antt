use Rattle.std.proofs.Common.{◌≡◌, length}
use Rattle.pending_returns.proofs.Passed.{MarksFirst}
use Rattle.pending_returns.proofs.passing.mark_owners.Given as goal

abbrev pub invariant-loop-place : goal.invariant-loop-place
invariant-loop-place l = record {
  marks : MarksFirst l.owners l.places l.place-index l.fn.flags.items l.flags.items;
  size : length l.flags.items ≡ length l.fn.flags.items;
}
