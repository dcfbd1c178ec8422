use Rattle.std.proofs.Common.{◌+◌, ◌≤◌}
use Rattle.overlap_trail.proofs.finding_lemmas.Taking.{Went}
use Rattle.overlap_trail.proofs.finding.chain.way_to.Given as goal

abbrev pub invariant-loop : goal.invariant-loop
invariant-loop l = record {
  falls : l.here + l.counter ≤ l.at;
  went : Went l.came l.places l.at l.here l.path.items;
}
