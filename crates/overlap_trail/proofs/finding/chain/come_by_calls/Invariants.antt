use Rattle.std.proofs.Common.{◌≡◌, ◌≤◌, length}
use Rattle.overlap_trail.proofs.finding_lemmas.Calling.{Told}
use Rattle.overlap_trail.proofs.finding.chain.come_by_calls.Given as goal

abbrev pub invariant-loop : goal.invariant-loop
invariant-loop l = record {
  reach : l.route.reach ≡ l.initial.route.reach;
  told : Told l.fn.route.came.items l.route.came.items l.came l.counter;
  within : l.counter ≤ length l.initial.route.reach.places.items;
}
